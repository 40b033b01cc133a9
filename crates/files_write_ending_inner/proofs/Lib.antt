-- What is said (Said).
pub mod Said
