-- What the two scans rest on, over plain lists (Facing).
pub mod Facing
