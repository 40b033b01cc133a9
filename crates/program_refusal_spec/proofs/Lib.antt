-- A text written out (Samples).
pub mod Samples
