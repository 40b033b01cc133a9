-- A word that serves the code alone: where a place stands on a ring (Around).
pub mod Around
