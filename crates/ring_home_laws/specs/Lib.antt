-- By how much the shade counts of one reading are above those of another (Counts).
pub mod Counts
