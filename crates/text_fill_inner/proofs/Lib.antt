-- A text filled and placed piece after piece (Filling).
pub mod Filling
