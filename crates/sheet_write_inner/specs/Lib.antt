-- What writing a sheet promises (Says).
pub mod Says
