-- The lines of an input and what they print, for any program that answers each line by a text, read from top to bottom.
--     Lines      the lines of an input
--     Texts      what they print, whole and block after block
--     Blocks     what code promises that takes an input block after block
--     LineCount  how many newlines an input has, and whether bytes follow the last
pub mod Lines
pub mod Texts
pub mod Blocks
pub mod LineCount
