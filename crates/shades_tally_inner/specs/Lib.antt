-- What counts leave beside some sectors (Remaining).
pub mod Remaining
