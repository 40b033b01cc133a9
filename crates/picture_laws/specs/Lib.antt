-- What a picture shows (Seen).
pub mod Seen
