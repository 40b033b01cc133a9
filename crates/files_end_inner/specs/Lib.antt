-- The room that the end takes (Room).
pub mod Room
