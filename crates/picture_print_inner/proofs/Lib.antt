-- From what is placed to what an input prints (Printing).
pub mod Printing
