-- What the part of the program that makes the bytes promises (Says).
pub mod Says
