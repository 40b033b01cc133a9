-- The words of a line one after another (Reading).
pub mod Reading
