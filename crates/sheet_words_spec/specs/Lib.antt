-- What the words of the command for a sheet mean (Words).
pub mod Words
