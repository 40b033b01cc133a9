-- What the loops rest on, over plain lists: the search for the nearest turn (Fewest), for one that is near enough (Nearer), and for the first that is (Turning).
pub mod Fewest
pub mod Nearer
pub mod Turning
