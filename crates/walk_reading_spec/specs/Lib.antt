-- Steps from a lent reading (Says).
pub mod Says
