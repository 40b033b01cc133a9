-- An exact sum counted down (Sum).
pub mod Sum
