-- Old catalogues block after block (02, j), read from top to bottom.
--     Blocks      what checking a block promises
--     Passes      the two passes over a catalogue: the first checks it, the second writes the new one
pub mod Blocks
pub mod Passes
