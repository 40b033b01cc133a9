-- What the loops rest on, over plain lists: the search for a turn that mirrors (Mirror).
pub mod Mirror
