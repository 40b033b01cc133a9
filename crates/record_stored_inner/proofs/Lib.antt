-- The bytes of a record, from the contracts of the parts (Stored).
pub mod Stored
