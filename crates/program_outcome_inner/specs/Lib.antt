-- How a run ended, by what was read (Says).
pub mod Says
