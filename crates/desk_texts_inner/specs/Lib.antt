-- What placing an answer's text promises (Says).
pub mod Says
