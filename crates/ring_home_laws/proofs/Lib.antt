-- Theorems about document 01's home readings. In order: periods (Period), home readings and shifts (Home), where the shift cannot be (Shift), readings of the same ring, how far
-- apart two are, and a ring seen from the other side (Alike), and what their shade counts say about that (Counts).
pub mod Period
pub mod Home
pub mod Shift
pub mod Alike
pub mod Counts
