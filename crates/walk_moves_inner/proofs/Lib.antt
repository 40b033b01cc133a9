-- What the loop of a step rests on, over plain lists (Standing).
pub mod Standing
