-- The loop over the Lyndon words (Along).
pub mod Along
