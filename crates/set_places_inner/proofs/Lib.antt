-- The test of a rule, read from the places (Joining), and what is put there (Offering).
pub mod Joining
pub mod Offering
