-- The picture of a target, read from top to bottom.
--     Gray     the gray of each shade
--     Arcs     a ring's runs of one shade
--     Text     the picture's text
--     Says     what drawing promises
pub mod Gray
pub mod Arcs
pub mod Text
pub mod Says
