-- One factor more (Powers).
pub mod Powers
