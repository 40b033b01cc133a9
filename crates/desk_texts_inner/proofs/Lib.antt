-- From texts that are placed to what a question prints (Putting); how long a text with numbers alone gets (Plain).
pub mod Putting
pub mod Plain
