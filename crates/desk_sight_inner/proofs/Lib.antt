-- From what is told of the words to what the question prints (Asking).
pub mod Asking
