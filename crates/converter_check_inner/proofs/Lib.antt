-- The mark of an old record (Marks).
pub mod Marks
