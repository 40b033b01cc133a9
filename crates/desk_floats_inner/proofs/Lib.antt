-- Which patterns and floats are numbers, and the patterns of digits (Patterns).
pub mod Patterns
