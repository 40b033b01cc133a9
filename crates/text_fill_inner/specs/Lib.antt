-- What the parts of filling a text promise (Says).
pub mod Says
