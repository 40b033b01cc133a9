-- What the loops rest on, over plain lists: the searches for the shift (Seek) and for the period (Least).
pub mod Seek
pub mod Least
