-- The divisor formulas for the number of rings (Formulas).
pub mod Formulas
