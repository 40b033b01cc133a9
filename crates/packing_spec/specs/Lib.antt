-- The packed stored form (02, request k), read from top to bottom.
--     Width      how many bits a sector takes
--     Packing    the sectors as bytes, and the bytes as sectors
--     Open       opens the definitions for the table of proofs/Cases
pub mod Width
pub mod Packing
pub mod Open
