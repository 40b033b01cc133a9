-- Whether another page follows (Says).
pub mod Says
