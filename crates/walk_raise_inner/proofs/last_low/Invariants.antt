-- `walk_raise_inner::last_low` meets its contract. The loop's invariant: no place past i can be raised.
use Rattle.words.proofs.Needs.{◌≤◌, length}
use Rattle.walk_raise_inner.proofs.Raising.{Over}
use Rattle.walk_raise_inner.proofs.last_low.Given as goal

abbrev pub invariant-loop-i : goal.invariant-loop-i
invariant-loop-i l = (l.i ≤ length l.s) × Over l.k l.s l.i

abbrev pub decreases-loop-i : goal.decreases-loop-i
decreases-loop-i l = l.i
