-- That a target lies within the buffer (Inside).
pub mod Inside
