-- A drawn shade is read as itself (Shades), and a picture as its ring (Back).
pub mod Shades
pub mod Back
