-- What looking for a reading among rings promises: rings end to end (Rings), and the answers (Says).
pub mod Rings
pub mod Says
