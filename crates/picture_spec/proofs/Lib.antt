-- That drawing has one answer (Unique), and pictures worked out by hand (Cases).
pub mod Unique
pub mod Cases
