-- What is written behind a read, and behind all of them (Says).
pub mod Says
