-- What looking for the place to raise finds (Low), which serves the code alone.
pub mod Low
