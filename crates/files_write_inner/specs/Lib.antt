-- What taking the bytes of a block promises (Says).
pub mod Says
