-- What each time through a catalogue does (Says).
pub mod Says
