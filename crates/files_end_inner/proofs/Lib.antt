-- Texts that stand where they were placed (Placing).
pub mod Placing
