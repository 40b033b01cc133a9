-- What reading counts promises (Says).
pub mod Says
