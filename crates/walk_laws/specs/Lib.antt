-- What a step's outcome reports (Reports), the rings that a start and the steps hand out, with the two sentences about them (HandedOut), those that the steps to
-- the next bracelet hand out (Arrivals), and what a record's counts are (Carries).
pub mod Reports
pub mod HandedOut
pub mod Arrivals
pub mod Carries
