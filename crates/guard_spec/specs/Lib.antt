-- Guarded sets, read from top to bottom.
--     Sides      both sides of the rings of a set, and what it is to be guarded
--     Choice     the guarded choice from the Lyndon words in order, and the rules of both choices
--     Worth      what a guarded set is to be worth
pub mod Sides
pub mod Choice
pub mod Worth
