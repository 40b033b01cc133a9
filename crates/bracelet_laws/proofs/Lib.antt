-- In order: places moved by a turn or a mirrored turn, and why filling up keeps a reading low (Places); bracelets by turns and by places (Words); filling up,
-- and the beginnings of bracelets (Absorb); the next bracelet from any reading (Next); the full walk (Pairs); bracelets, beginnings and small walks worked out by hand, as one table (Cases).
pub mod Places
pub mod Words
pub mod Absorb
pub mod Next
pub mod Pairs
pub mod Cases
