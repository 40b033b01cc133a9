-- Runs: what the scan of a reading and the loops over it speak of (Run). All else that the theorems of this crate are about is defined in `words` and `rings`.
pub mod Run
