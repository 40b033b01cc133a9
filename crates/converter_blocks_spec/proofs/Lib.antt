-- Records behind one another (Joined), places and the record that a block cuts (Places), that a block has one answer (Unique), and the two passes (Through).
pub mod Joined
pub mod Places
pub mod Unique
pub mod Through
