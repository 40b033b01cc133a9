-- Comparing a word of the pool with al, node after node (Chains).
pub mod Chains
