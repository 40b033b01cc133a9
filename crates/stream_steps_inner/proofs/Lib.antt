-- Whether another read follows (Going).
pub mod Going
