-- A verb by its names (Names).
pub mod Names
