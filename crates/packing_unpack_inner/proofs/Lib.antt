-- The loop of unpacking, and the padding, over plain lists and numbers (Unpacks).
pub mod Unpacks
