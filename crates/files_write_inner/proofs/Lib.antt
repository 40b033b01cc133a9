-- From byte to byte of a block (Lining).
pub mod Lining
