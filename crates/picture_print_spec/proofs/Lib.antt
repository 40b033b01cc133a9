-- That an input prints one text (Unique), and lines worked out by hand (Samples).
pub mod Unique
pub mod Samples
