-- What a line of the desk asks and prints, read from top to bottom.
--     Floats     reflectances by their bits, and the card
--     Verbs      the verb of a word
--     Questions  the words behind a verb
--     Texts      what each answer prints
--     Sights     a reading looked for among rings that stand in words of their own
--     Answers    what a verb's call prints, by the call's own promise, and what a line prints
pub mod Floats
pub mod Verbs
pub mod Questions
pub mod Texts
pub mod Sights
pub mod Answers
