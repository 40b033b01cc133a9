-- The places one after another (Laying).
pub mod Laying
