-- What `advance` comes to (Going), which serves the code alone.
pub mod Going
