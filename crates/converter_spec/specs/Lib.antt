-- Old catalogues, with the back records that are retired now, and their conversion (02, j), read from top to bottom.
--     Sides       the two marks of an old catalogue, and the front ring of each
--     Reads       what the old reader promised
--     Converts    what the converter promises
pub mod Sides
pub mod Reads
pub mod Converts
