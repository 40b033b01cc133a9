-- What laying down one word leaves (Laying), which serves the code alone.
pub mod Laying
