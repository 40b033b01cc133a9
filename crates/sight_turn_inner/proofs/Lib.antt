-- The part of the rings that the code lends (Parts).
pub mod Parts
