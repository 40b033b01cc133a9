-- Laws of the line: a number read digit by digit (Spelling).
pub mod Spelling
