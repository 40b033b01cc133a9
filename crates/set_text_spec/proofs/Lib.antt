-- Laws of a chart job's text: how long it is (Lengths), that a line has one output (Unique), that its first characters decide it (First), and a set computed (Samples).
pub mod Lengths
pub mod Unique
pub mod First
pub mod Samples
