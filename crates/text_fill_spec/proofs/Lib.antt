-- A text filled character after character, and how long it gets (Laws); texts worked out by hand (Samples).
pub mod Laws
pub mod Samples
