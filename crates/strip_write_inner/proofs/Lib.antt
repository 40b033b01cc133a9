-- Laws of writing the strip: the loop from necklace to necklace (Writing).
pub mod Writing
