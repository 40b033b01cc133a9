-- How long a ring is that a step wrote (Rings), and what the step prints (Steps).
pub mod Rings
pub mod Steps
