-- How many lines a byte ends (Ends).
pub mod Ends
