-- What becomes of a block (Turns).
pub mod Turns
