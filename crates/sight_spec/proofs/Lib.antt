-- No two answers fit (Unique), and rings that lie end to end (Rings).
pub mod Unique
pub mod Rings
