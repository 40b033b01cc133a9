-- What becomes of a block (Says).
pub mod Says
