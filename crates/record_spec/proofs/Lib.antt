-- What the contracts of reading and writing determine and give: what the two forms have in common (Forms), the answer that
-- the reader's order computes (Answer), that reading has one answer (Unique), a record's bytes (Laid), what reading gives its callers (Laws), what it looks at (Only);
-- that writing has one answer (Wrote), that reading and writing undo one another (Rounds), that a record moved to the other form and back is the same bytes (Moved); and
-- records to check by hand (Cases).
pub mod Forms
pub mod Answer
pub mod Unique
pub mod Laid
pub mod Laws
pub mod Only
pub mod Wrote
pub mod Rounds
pub mod Moved
pub mod Cases
