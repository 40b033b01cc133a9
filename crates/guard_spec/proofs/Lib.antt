-- Guarded sets worked out by hand (Cases).
pub mod Cases
