-- What the test of the counts promises (Told).
pub mod Told
