-- What the function promises (Says).
pub mod Says
