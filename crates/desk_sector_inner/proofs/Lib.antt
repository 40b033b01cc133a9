-- What the calls tell has bits of its own (Numbers).
pub mod Numbers
