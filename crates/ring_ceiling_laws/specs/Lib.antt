-- How far one step can go (02, request h; demand 3): the ceilings and what it is to be one (Ceiling), and the rings that reach them (Notched).
pub mod Ceiling
pub mod Notched
