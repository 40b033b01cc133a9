-- A number and what stands behind it (Heads); from what stands behind it to the question (Shapes).
pub mod Heads
pub mod Shapes
