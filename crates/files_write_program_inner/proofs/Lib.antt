-- What becomes of a block, and of a time through the input (Turns).
pub mod Turns
