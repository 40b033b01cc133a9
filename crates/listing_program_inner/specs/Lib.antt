-- What the parts of the program promise.
pub mod Says
