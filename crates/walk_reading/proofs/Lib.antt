-- That a step from a reading is a start and then a step from its record (AsWalk).
pub mod AsWalk
