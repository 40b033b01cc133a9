-- The tests of a guarded set beside that of the fronts (Says).
pub mod Says
