-- What deciding whether a listing can go on promises.
pub mod Says
