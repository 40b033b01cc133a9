-- Laws of the refusals: that no order of checks gives two answers (Unique); facts told by tests (Facts), so that an order computes its answer (Tests); the answer of the
-- order that most calls share (Answer), rows of it to check by hand (Cases), and a check that asks more (More).
pub mod Unique
pub mod Facts
pub mod Tests
pub mod Answer
pub mod Cases
pub mod More
pub mod Handed
