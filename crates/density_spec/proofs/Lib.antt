-- That the calls have one answer (Unique), and what stands at a place of a ring's shades (Places).
pub mod Unique
pub mod Places
