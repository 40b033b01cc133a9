-- From what is placed to what the calls promise (Making).
pub mod Making
