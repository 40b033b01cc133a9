-- The sectors of a walk's ring (Sectors).
pub mod Sectors
