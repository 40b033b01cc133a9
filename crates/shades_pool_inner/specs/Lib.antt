-- Words of the pool as chains of nodes (Chain).
pub mod Chain
