-- How large the numbers of a layout get (Bounds).
pub mod Bounds
