-- The rings' lines one behind another (Lines).
pub mod Lines
