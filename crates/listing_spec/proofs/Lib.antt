-- Laws of the output: document 01's own listing (Samples), and that an input and a buffer determine every page (Unique).
pub mod Samples
pub mod Unique
