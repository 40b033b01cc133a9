-- How the answers to two questions about two readings agree (Agree).
pub mod Agree
