-- What taking a byte of the lines promises, and their end (Says).
pub mod Says
