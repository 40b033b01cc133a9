-- What becomes of a block, and of a time through the file (Times).
pub mod Times
