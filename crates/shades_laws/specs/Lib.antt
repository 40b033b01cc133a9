-- What the theorems of this crate speak of besides `necklace` and `occurs` of `rings`: words that lie under others (Under), and the letters of given counts in
-- increasing order (Letters).
pub mod Under
pub mod Letters
