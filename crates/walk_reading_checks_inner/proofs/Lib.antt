-- How the checks of a step from a lent reading end (Checking).
pub mod Checking
