-- The verb of a word (Verbs); what a line prints (Lines); that its first bytes tell (Telling).
pub mod Verbs
pub mod Lines
pub mod Telling
