-- That an input prints one text, and that a block and the end of the input determine the answers and every byte of the buffers (Unique); lines worked out by hand
-- (Samples).
pub mod Samples
pub mod Unique
