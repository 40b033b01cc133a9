-- The answer for a block, from that for a catalogue of its own (Blocks).
pub mod Blocks
