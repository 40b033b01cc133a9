-- The strip along the frame (02, request l), read from top to bottom.
--     Strip     every Lyndon word whose length divides n, in increasing order, one after another
--     Places    the n neighbouring sectors at a place, and where a reading stands
--     Open      all definitions opened at once, for the table
pub mod Strip
pub mod Places
pub mod Open
pub mod Says
