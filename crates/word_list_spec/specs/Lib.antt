-- What passes a test: the words of a list, and the numbers below one.
pub mod Passing
