-- Shifts of bytes, over plain numbers (Shifts).
pub mod Shifts
