-- Pieces one after another (Pieces), readings spelt by digits (Spelling), lines worked out by hand (Samples).
pub mod Pieces
pub mod Spelling
pub mod Samples
