-- What a sheet's text is said to be: its pages (Pages), and what is placed target after target (Placing).
pub mod Pages
pub mod Placing
