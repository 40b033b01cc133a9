-- What looking for a reading among the rings of a line promises (Says).
pub mod Says
