-- That a step from a lent reading has one answer (Unique).
pub mod Unique
