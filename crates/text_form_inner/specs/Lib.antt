-- A text placed within a known room (Fits).
pub mod Fits
