-- The reflectance that a gray stands for, and what is measured of a picture (Shown).
pub mod Shown
