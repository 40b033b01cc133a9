-- `walk_moves_inner::advance` meets its contract. The loop's invariant, `Stands`: the step has gone from prenecklace to prenecklace, has met none of the kind, and its lyn rises.
use Rattle.words.proofs.Needs.{◌-◌, length}
use Rattle.walk_moves_inner.proofs.Standing.{Stands}
use Rattle.walk_moves_inner.proofs.advance.Given as goal

abbrev pub invariant-loop-at : goal.invariant-loop-at
invariant-loop-at l = Stands l.kind l.k l.initial.ring l.ring l.lyn l.moves

abbrev pub decreases-loop-at : goal.decreases-loop-at
decreases-loop-at l = length l.initial.ring - l.lyn
