-- Counting shades (Tallying), and what counts leave beside some sectors (Leaving), over plain lists.
pub mod Tallying
pub mod Leaving
