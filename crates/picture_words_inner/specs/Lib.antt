-- What the functions promise (Says).
pub mod Says
