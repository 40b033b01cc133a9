-- What the parts of `shade` promise (Says).
pub mod Says
