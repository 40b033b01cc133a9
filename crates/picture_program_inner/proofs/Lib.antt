-- What the program reads, and that its output lies within the buffer (Input).
pub mod Input
