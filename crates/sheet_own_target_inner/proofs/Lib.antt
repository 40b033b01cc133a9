-- The target of a line (Targets).
pub mod Targets
