-- A set that was picked, laid into an output (Laying).
pub mod Laying
