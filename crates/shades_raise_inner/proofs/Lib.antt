-- Places that no ring of the counts raises (Blocking), over plain lists.
pub mod Blocking
