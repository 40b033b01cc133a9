-- The calls: from checks and shifts to answers (Answers). That no call has two answers: `home_spec`, proofs/Unique.
pub mod Answers
