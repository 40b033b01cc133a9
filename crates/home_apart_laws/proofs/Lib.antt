-- What two readings are that pass their checks (Pairs), and how the answers about them agree (Apart).
pub mod Pairs
pub mod Apart
