-- From which states a listing goes on.
pub mod States
