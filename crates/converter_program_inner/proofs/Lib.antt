-- What becomes of a time through the catalogue (Times).
pub mod Times
