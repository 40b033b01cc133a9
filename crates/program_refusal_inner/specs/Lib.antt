-- How long it may be (Room).
pub mod Room
