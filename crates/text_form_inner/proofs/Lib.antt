-- Texts placed one behind another, with the room that they take (Fits).
pub mod Fits
