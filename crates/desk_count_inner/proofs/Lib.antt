-- A byte that a text asks for (Reading).
pub mod Reading
