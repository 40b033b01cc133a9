-- The loop and what it finds (Looking).
pub mod Looking
