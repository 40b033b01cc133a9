-- What the parts of the programs promise (Says).
pub mod Says
