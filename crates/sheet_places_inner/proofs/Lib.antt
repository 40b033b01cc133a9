-- A ring in its place, and its target (Places).
pub mod Places
