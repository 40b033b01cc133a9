-- What copying and reversing bytes leave (Copy), and bytes written one after another (Written).
pub mod Copy
pub mod Written
