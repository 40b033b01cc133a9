-- The words that proofs speak (Plain, Needs), and laws about readings as lists. In order: telling cases apart (Split), the searches of specs/Search (Search), sequences and their
-- first difference (Sequence), the order (Lex), turns (Turn), all readings of n and k (Readings, Count).
pub mod Plain
pub mod Needs
pub mod Split
pub mod Search
pub mod Sequence
pub mod Lex
pub mod Turn
pub mod Readings
pub mod Count
