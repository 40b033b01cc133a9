-- What reading promises (Says).
pub mod Says
