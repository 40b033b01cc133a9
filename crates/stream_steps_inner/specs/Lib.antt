-- One byte more of a line, and whether another read follows (Says).
pub mod Says
