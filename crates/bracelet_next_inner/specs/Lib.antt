-- What the functions of this crate ask for and come to; the words serve the code alone.
pub mod Going
