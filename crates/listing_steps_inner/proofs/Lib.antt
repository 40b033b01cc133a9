-- Whether another page follows (Going).
pub mod Going
