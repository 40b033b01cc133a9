-- The laws that the code rests on (Good), what the contracts determine (Unique), and demand 3 through them (Sums).
pub mod Unique
