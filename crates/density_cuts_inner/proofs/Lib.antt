-- One cut more (Counting).
pub mod Counting
