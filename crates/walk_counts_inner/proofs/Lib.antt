-- Counting all bytes at once, taking the shades among them, and comparing counts, over plain lists (Counting).
pub mod Counting
