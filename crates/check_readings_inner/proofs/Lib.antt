-- The sectors of one reading and of two (Sectors).
pub mod Sectors
