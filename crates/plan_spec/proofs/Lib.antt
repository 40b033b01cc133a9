pub mod Unique
pub mod First
pub mod Numbers
