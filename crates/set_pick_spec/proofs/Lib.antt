-- No two answers fit (Unique), and what the answer's set is worth (Worth).
pub mod Unique
pub mod Worth
