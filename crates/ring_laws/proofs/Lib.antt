-- The theorems. In order: words as sequences (Run, Repeat, Ring), and then the same of lists.
pub mod Run
pub mod Repeat
pub mod Raise
pub mod Words
pub mod Lyndon
pub mod Fundamental
pub mod Wrong
pub mod Classes
pub mod Begin
pub mod Next
pub mod Moves
pub mod Walk
pub mod Bound
pub mod Sums
pub mod FullWalk
