-- The strip's calls have one answer (Unique); from the checks of a reading to its place (Telling); what follows from the promises (Laws).
pub mod Telling
pub mod Laws
