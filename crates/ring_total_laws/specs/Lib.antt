-- When a reading is a turn of another (Turns), and what it means that every reading has one ring (OneRing).
pub mod Turns
pub mod OneRing
