-- The table of bytes with its computed test (Table), and the rule that each of its entries follows (Entries).
pub mod Table
pub mod Entries
