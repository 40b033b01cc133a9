-- No two answers, nor two outputs, fit one call (Unique).
pub mod Unique
