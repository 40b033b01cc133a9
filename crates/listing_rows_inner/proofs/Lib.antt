-- The loop over the rings.
pub mod Loop
