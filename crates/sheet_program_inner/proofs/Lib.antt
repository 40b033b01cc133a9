-- That the output lies within the buffer, and that what is ready is printed (Output).
pub mod Output
