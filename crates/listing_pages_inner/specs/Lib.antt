-- What placing a listing's lines promises.
pub mod Says
