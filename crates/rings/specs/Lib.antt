-- Document 01's rules as definitions, read from top to bottom.
--     Necklace       necklace, period, Lyndon word
--     Prenecklace    prenecklace, lyn, where a reading goes wrong
--     Class          Loose, Opening, Repeating, Single
--     Home           home reading, shift
--     Alike          even-handed, same ring, apart, the ring seen from the other side, bracelets
--     Next           the next prenecklace, as the page builds it
--     Counts         shade counts
--     Steps          the next reading of a kind, the moves to it, a full walk
pub mod Necklace
pub mod Prenecklace
pub mod Class
pub mod Home
pub mod Alike
pub mod Next
pub mod Counts
pub mod Steps
pub mod Open
