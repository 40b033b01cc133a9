-- What a plan's text is (Placing).
pub mod Placing
