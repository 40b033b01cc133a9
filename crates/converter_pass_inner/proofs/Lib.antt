-- What becomes of a block (Blocks).
pub mod Blocks
