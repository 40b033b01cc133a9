-- That placing a target has one answer (Unique), that a page has a target (Rows), and places and pages worked out by hand (Cases).
pub mod Unique
pub mod Rows
pub mod Cases
