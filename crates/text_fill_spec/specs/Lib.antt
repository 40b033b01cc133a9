-- A text with slots, filled (Filled).
pub mod Filled
