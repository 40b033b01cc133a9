-- How a run ended, and what is said of that (Endings).
pub mod Endings
