-- What the parts of the call promise (Says).
pub mod Says
