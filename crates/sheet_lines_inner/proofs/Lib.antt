-- The lines of a text one after another (Lines).
pub mod Lines
