-- The kind and the class of a prenecklace by its lyn (ByLyn).
pub mod ByLyn
