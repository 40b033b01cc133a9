-- What the parts of the listing's calls promise.
pub mod Says
