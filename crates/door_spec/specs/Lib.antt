-- The answers as numbers (Flat), and a set that is written to an output (Sets).
pub mod Flat
pub mod Sets
