-- What the command for a sheet reads and prints (Prints).
pub mod Prints
