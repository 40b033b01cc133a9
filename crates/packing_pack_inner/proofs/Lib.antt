-- The loop of packing, over plain lists and numbers (Packs).
pub mod Packs
