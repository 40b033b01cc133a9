-- Catalogues that are written from lines, read from top to bottom.
--     RingLines   a line, the record that it writes, and what it is refused with
--     Inputs      a whole input, its first refused line, and what a reader finds in what was written
pub mod RingLines
pub mod Inputs
