-- From a spelt reading to its line (Spelling).
pub mod Spelling
