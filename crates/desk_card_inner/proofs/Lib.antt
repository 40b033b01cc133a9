-- From an answer to what the values print (Values).
pub mod Values
