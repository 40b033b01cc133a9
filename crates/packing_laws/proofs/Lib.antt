-- The theorems of the packed stored form, in order: the width of k shades (Width); parts as one number, and back (AsOne); how many bytes and how many unused bits
-- (Lengths); packing and unpacking undo each other (Packing); where each bit lies (Places); and, for the code, parts moved one at a time (Moving).
pub mod Width
pub mod AsOne
pub mod Lengths
pub mod Packing
pub mod Places
pub mod Moving
