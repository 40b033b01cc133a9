-- Catalogue records (01, 'Catalogue records'; 02, a, j and k), read from top to bottom.
--     Layout    how a record lies in a catalogue, its marks, and the two forms of its sectors
--     Order     the record reader's own order of checks, and when each refusal is given
--     Says      what the reader promises
--     Writes    what the writer promises
pub mod Layout
pub mod Order
pub mod Says
pub mod Writes
