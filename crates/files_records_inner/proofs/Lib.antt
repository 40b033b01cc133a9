-- A record, and the records of a block (Going).
pub mod Going
