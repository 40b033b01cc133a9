-- What a program says on standard error (Text).
pub mod Text
