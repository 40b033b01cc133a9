-- A line, and an input, in one way (Unique); an input cut anywhere, and gone through block after block (Cut); written, and then read (Rounds).
pub mod Unique
pub mod Cut
pub mod Rounds
