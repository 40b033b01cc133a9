-- No two answers fit, the output included (Unique).
pub mod Unique
