-- What laying out a set promises (Layout).
pub mod Layout
