-- What is said has room (Said).
pub mod Said
