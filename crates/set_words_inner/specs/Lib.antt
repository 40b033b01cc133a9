-- Whether the all-zero ring is taken (Says).
pub mod Says
