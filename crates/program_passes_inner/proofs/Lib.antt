-- Which course a block takes, and the two ends compared (Courses); the last digit of the flags in the system's record of a file (Modes).
pub mod Courses
pub mod Modes
