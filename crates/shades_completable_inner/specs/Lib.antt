-- What it is to complete a beginning (Completion).
pub mod Completion
