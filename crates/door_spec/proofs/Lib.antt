-- That each call has one answer in numbers (Unique), and that nothing of an answer is lost in them (Back).
pub mod Back
pub mod Unique
