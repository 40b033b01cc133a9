-- The letters put one behind the other (Filling).
pub mod Filling
