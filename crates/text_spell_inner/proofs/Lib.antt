-- Texts compared, and readings place by place (Spelling).
pub mod Spelling
