-- The output that a strip is written into (Outputs).
pub mod Outputs
