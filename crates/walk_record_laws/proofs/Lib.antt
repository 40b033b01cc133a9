pub mod Good
pub mod Sums
