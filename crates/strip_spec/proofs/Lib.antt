-- Strips worked out by hand (Cases); words of lists and lists in increasing order (Listed); the strip's words are the ones that are meant (Words); words
-- joined (Joined); a reading's one place (Places).
pub mod Cases
pub mod Listed
pub mod Words
pub mod Joined
pub mod Places
pub mod Unique
