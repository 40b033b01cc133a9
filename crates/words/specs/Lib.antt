-- Readings as lists of numbers, read from top to bottom: searches over the numbers below n, the order, turns, and all
-- readings of n sectors and k shades; words as sequences; and tables of cases.
pub mod Search
pub mod Sum
pub mod Order
pub mod Turn
pub mod Readings
pub mod Sequence
pub mod Table
