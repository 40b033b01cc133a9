-- What the functions promise (Says), and what is placed step after step (Steps).
pub mod Says
pub mod Steps
