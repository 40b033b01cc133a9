-- Words of eight digits (Says).
pub mod Says
