-- What the parts of the reader promise each other (Steps), and the parts of checking a record's sectors (Looks): both serve the code alone.
pub mod Steps
pub mod Looks
