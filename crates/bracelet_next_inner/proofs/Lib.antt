-- The place that is raised, and the places behind it (Lifting).
pub mod Lifting
