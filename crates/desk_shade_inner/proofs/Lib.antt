-- Words of eight digits end to end (Eights), and from what is told of them to what the question prints (Asking).
pub mod Eights
pub mod Asking
