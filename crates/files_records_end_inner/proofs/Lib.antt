-- Where a block is as far as it goes (Ends).
pub mod Ends
