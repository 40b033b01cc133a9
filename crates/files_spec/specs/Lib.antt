-- Files gone through whole, read from top to bottom.
--     Shows        what a record shows, and what stands behind the last one
--     Catalogues   what a whole catalogue shows
--     Blocks       a file block after block
pub mod Shows
pub mod Catalogues
pub mod Blocks
