-- What the parts of drawing promise (Parts).
pub mod Parts
