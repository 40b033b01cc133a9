-- Theorems about how many turns and readings there are. In order: small walks computed, as one table (Cases), totals over lists of readings (Totals), the turns of
-- one reading (Turning), every reading has one ring (OneRing); a necklace and the Lyndon word that it begins with (Beginnings).
pub mod Cases
pub mod Totals
pub mod Turning
pub mod OneRing
pub mod Beginnings
