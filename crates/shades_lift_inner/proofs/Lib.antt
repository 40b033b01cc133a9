-- Shades to which the pool leaves no completion (Barring), and that a shade can change places with a lesser one (Lower), over plain lists.
pub mod Barring
pub mod Lower
