-- What a picture shows: each sector its own shade (Seen); the picture of a turn is the picture turned (Turned).
pub mod Seen
pub mod Turned
