-- The theorems about guarded sets: how far apart rings are from both sides (Mirror), whichever of the two is seen from the other side (EitherSide), what holds of both sides of a guarded
-- set (Sides), that a ring seen with sectors misread is told from all others (Seen), which words may join a guarded set (Joins), and what the guarded choice is worth (Worth).
pub mod Mirror
pub mod EitherSide
pub mod Sides
pub mod Seen
pub mod Joins
pub mod Worth
