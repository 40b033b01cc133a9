-- A target of its pieces (Cells).
pub mod Cells
