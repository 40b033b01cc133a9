-- What the step to the next bracelet promises (Says).
pub mod Says
