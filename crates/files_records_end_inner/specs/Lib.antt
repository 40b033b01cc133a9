-- What the parts promise (Says).
pub mod Says
