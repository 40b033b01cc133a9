-- What offering a ring to the places of a set promises (Says).
pub mod Says
