-- What the search and the loop of a move rest on, over plain lists (Raising).
pub mod Raising
