-- What the two calls promise (Answers).
pub mod Answers
