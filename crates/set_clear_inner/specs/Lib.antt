-- What the places of a set hold, and whether a ring is apart from that (Says).
pub mod Says
