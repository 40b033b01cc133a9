-- One ring from each mirror pair (02, request c), read from top to bottom. The rings themselves, `bracelet`, are defined in `rings`, specs/Alike.
--     Pairs         what a walk over them owes: one of each mirror pair, and an even-handed ring for itself
--     Beginnings    the beginnings of bracelets, and beginnings filled up
pub mod Pairs
pub mod Beginnings
