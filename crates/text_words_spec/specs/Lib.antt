-- The pieces of a text, and readings spelt by digits (Words).
pub mod Words
