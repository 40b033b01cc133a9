-- The room that a record takes (Room).
pub mod Room
