-- What the checks give the step, and what a start makes of the ring that it comes to (Arriving).
pub mod Arriving
