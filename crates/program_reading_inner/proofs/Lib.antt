-- What the system's answer says (Telling).
pub mod Telling
