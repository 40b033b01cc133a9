-- The theorems of the strip, in order: sequences only (Around); the strip is written by a walk (Pieces, Standing); it is built from its right end (Built); each
-- reading is found (Found), exactly once (Once).
pub mod Around
pub mod Pieces
pub mod Standing
pub mod Built
pub mod Found
pub mod Once
