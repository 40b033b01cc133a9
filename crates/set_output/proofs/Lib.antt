-- What makes the output for a line (Output).
pub mod Output
