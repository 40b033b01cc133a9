-- That an input prints one text (Unique), the rings of lines of digits (Rings), lines and inputs worked out by hand (Samples).
pub mod Unique
pub mod Rings
pub mod Samples
