-- What placing the record of a line promises (Says).
pub mod Says
