-- Answers whose value has bits of its own (Says).
pub mod Says
