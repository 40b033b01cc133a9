-- The checks of lines (Checks).
pub mod Checks
