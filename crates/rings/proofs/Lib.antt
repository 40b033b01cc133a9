-- The hand-checked rings, as one table (Cases).
pub mod Cases
