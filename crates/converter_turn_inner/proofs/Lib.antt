-- The loop over the records of a catalogue (Going).
pub mod Going
