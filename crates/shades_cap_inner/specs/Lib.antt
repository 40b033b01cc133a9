-- What stands in for counts and a reading in a search (Capped). These serve the code alone.
pub mod Capped
