-- What a line prints, by the program (Says).
pub mod Says
