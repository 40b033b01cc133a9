-- What is proved of the lines of the desk.
--     Samples    what a text behind a verb prints, worked out by hand
--     Questions  a text asks one question
--     Sights     a reading among rings has one answer, and which rings are looked at
--     Floats     floats by their bits, worked out by hand
--     Unique     a line prints one text
pub mod Samples
pub mod Questions
pub mod Sights
pub mod Floats
pub mod Unique
