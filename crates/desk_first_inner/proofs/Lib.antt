-- The sum of counts, and that each length above 64 is refused alike (Sums).
pub mod Sums
