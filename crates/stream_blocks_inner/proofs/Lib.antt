-- One byte more of a line (Holding).
pub mod Holding
