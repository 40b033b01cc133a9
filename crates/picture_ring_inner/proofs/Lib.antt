-- A ring's arcs drawn sector after sector (Drawing).
pub mod Drawing
