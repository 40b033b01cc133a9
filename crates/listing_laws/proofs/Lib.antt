-- Theorems about the listing program's output: how many rings and moves lead to a ring (Counting), the lines that follow a ring (Following), what a page leaves
-- (Leaving), and the whole output (Whole).
pub mod Counting
pub mod Following
pub mod Leaving
pub mod Whole
