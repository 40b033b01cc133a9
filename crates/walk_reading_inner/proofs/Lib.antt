-- What the checks give to a step from a lent reading, and how it ends (Passing).
pub mod Passing
