-- The laws of words kept from a list (Kept).
pub mod Kept
