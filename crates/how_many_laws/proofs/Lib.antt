-- The formulas are right (Formulas); values of them, computed (Cases).
pub mod Cases
pub mod Formulas
