-- Words with spaces between them (Spaced); their sectors up to a place (Upto); how long the words are (Long).
pub mod Spaced
pub mod Upto
pub mod Long
