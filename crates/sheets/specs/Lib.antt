-- What the check of the layout promises (Says).
pub mod Says
