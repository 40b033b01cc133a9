-- How often a span can be halved (Halves), and the search for the least shade (Settling).
pub mod Halves
pub mod Settling
