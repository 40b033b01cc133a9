-- What the command for one target reads and prints (Prints).
pub mod Prints
