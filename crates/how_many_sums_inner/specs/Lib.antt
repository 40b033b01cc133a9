-- What the divisor formulas' sums weigh their powers by (Weights).
pub mod Weights
