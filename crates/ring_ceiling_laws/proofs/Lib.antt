-- Steps checked by hand (Cases); one step by its first move (FirstMove); the ceilings hold (Ceiling); the rings that reach them (Notched), and that they do (Reached).
pub mod Cases
pub mod FirstMove
pub mod Ceiling
pub mod Notched
pub mod Reached
