-- A search with the counts and the reading that are left has the answer of the search with those that were given.
--     Capping    what is above a capped reading, and the next ring above it
pub mod Capping
