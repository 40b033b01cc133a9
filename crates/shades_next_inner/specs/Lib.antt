-- What the functions of this crate ask and promise. These serve the code alone: the calls' own contracts are those of `shades`.
--     Runs      beginnings that are prenecklaces, and repeating one
--     Raised    how many places a search raises
--     Above     the next ring of given counts
pub mod Runs
pub mod Raised
pub mod Above
