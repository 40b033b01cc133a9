-- The bytes of a packed record, from what looking at their sectors tells (Bodies).
pub mod Bodies
