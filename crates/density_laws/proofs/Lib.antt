-- What follows from the definitions and the promises of `density_spec`, read from top to bottom.
--     Floats    the order of all floats
--     Values    what a value is: no number, out or in; in is from 0 to 1
--     Shades    a shade is below k; a brighter value has no lower shade
--     Answers   the same of what the calls answer, through their contracts alone
--     Cases     values and cards checked by hand
pub mod Floats
pub mod Values
pub mod Shades
pub mod Answers
pub mod Cases
