-- Texts written out (Samples), and that what a program says it says in one way (Unique).
pub mod Samples
pub mod Unique
