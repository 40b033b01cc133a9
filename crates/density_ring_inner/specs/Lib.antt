-- What the search for a value without a shade answers (Scan).
pub mod Scan
