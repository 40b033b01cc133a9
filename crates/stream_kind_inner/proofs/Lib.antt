-- That the first bytes of a line tell (Telling).
pub mod Telling
