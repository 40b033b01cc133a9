-- Sets worked out by hand (Cases).
pub mod Cases
