-- Laws for placing a listing's pages: their beginning and their end.
pub mod Filling
