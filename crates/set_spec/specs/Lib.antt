-- Target sets for one job (02, 'g'), read from top to bottom.
--     Greedy     the greedy choice from the Lyndon words in order
--     Worth      what a set is to be worth
--     Places     a set laid into 32 places of 24 sectors
pub mod Greedy
pub mod Worth
pub mod Places
