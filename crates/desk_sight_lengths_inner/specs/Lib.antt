-- What is told of a reading among rings (Says).
pub mod Says
