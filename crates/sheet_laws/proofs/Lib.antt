-- A sheet is its pages (Pages), and what is placed target after target is the sheet (Placing).
pub mod Pages
pub mod Placing
