-- Laws that the proofs cite, over plain lists (Turning).
pub mod Turning
