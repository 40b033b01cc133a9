-- Lines worked out by hand (Samples); then the theorems, in order: byte after byte (Bytes), the lines of an input are what one would say (Whole), an input prints one
-- text (Unique), how many lines there are (LineCount), only the first bytes of a line tell, and however an input is cut it prints the same (Cut), a block byte after byte (Taking).
pub mod Samples
pub mod Bytes
pub mod Whole
pub mod Unique
pub mod LineCount
pub mod Cut
pub mod Taking
