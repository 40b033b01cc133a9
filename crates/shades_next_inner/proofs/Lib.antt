-- The laws over plain lists on which the functions of this crate rest.
--     Repeating    beginnings that are prenecklaces, and repeating one
--     Stepping     from a reading to a greater prenecklace with no ring between
--     Raised       how many places are raised
--     Seeking      the search, over the arrays that hold it
pub mod Repeating
pub mod Stepping
pub mod Raised
pub mod Seeking
