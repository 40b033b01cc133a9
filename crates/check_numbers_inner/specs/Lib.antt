-- What the scans promise (Scan).
pub mod Scan
