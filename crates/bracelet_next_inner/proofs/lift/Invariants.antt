-- `bracelet_next_inner::lift` meets its contract. The loop's invariant, `Lifting`: from place i on, raising is of no use.
use Rattle.bracelet_next_inner.proofs.Lifting.{Lifting}
use Rattle.bracelet_next_inner.proofs.lift.Given as goal

abbrev pub invariant-loop-i : goal.invariant-loop-i
invariant-loop-i l = Lifting l.k l.initial.s l.s l.i

abbrev pub decreases-loop-i : goal.decreases-loop-i
decreases-loop-i l = l.i
