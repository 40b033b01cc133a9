-- What the parts of the program promise (Says).
pub mod Says
