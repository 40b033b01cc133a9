-- What the parts of `first` promise (Says).
pub mod Says
