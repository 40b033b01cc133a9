-- What becomes of a block, and how a time through a file ends (Passes); what the system's record of an open file says (Record).
pub mod Passes
pub mod Record
