-- The scan over plain lists (Scanning).
pub mod Scanning
