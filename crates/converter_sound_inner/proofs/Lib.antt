-- The invariant of going through a catalogue, and its turns (Going).
pub mod Going
