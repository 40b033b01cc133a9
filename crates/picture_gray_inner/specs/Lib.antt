-- What the two tones promise (Says).
pub mod Says
