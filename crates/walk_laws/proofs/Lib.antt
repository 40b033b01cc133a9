-- Theorems about a start and the steps of `walk`, through their contracts alone: what an outcome reports (Reports), steps of any kind are a full walk and come to Done
-- (Started), every reading has one ring among those handed out (OneRing), how far one step goes (Ceiling), demand 3 of whatever answer is admitted (Demand3), one ring
-- from each mirror pair (MirrorPairs), and the counts that a walk carries (Counts).
pub mod Reports
pub mod Started
pub mod OneRing
pub mod Ceiling
pub mod Demand3
pub mod MirrorPairs
pub mod Counts
