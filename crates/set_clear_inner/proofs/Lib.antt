-- What is read from the places (Clear).
pub mod Clear
