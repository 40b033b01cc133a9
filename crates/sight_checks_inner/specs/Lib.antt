-- What the check of the sectors promises (Says).
pub mod Says
