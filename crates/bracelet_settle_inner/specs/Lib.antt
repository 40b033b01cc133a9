-- The least shade at a place that makes a reading a bracelet (Shades); the words serve the code alone.
pub mod Shades
