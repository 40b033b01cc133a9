-- To which shades a place of a prenecklace can be raised (Lifts). These serve the code alone.
pub mod Lifts
