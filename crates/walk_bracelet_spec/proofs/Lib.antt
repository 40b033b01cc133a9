-- What the contract determines (Unique).
pub mod Unique
