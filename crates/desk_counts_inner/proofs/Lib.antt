-- Counts that are read one after another (Counting); from a word of counts to the question of a text (Asking).
pub mod Counting
pub mod Asking
