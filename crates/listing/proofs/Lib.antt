-- What makes a page.
pub mod Making
