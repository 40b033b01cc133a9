-- What placing the lines of rings promises.
pub mod Says
