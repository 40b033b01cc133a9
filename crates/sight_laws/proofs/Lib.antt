-- Rings laid end to end, which are cut into the same rings again (EndToEnd); what is answered where rings are guarded (Tells); and a set that was picked guarded and laid out,
-- and a reading of one of its rings (Sighted), where no more sectors are misread than are looked for also from the front (SightedFront).
pub mod EndToEnd
pub mod Tells
pub mod Sighted
pub mod SightedFront
