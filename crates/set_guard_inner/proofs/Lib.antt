-- The other side of a ring, and the tests that are made of it (Backs).
pub mod Backs
