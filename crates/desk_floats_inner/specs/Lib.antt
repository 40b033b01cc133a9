-- What making floats of digits promises (Says).
pub mod Says
