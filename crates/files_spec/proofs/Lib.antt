-- One text and one verdict (Unique), texts and bytes by hand (Samples), records and what follows them (Joined), and blocks, however they are cut (Cut).
pub mod Unique
pub mod Samples
pub mod Joined
pub mod Cut
