-- What reading the first word promises (Says).
pub mod Says
