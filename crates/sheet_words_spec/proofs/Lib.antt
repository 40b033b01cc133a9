-- That words ask for one sheet (Unique), and lines worked out by hand (Samples).
pub mod Unique
pub mod Samples
