-- The kinds of step, what a prenecklace is by its lyn, and what a step asks of its ring; these serve the code alone.
pub mod Kinds
