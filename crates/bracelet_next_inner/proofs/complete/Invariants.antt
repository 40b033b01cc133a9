-- `bracelet_next_inner::complete` meets its contract. The loop's invariant, `Leading`: the first i sectors lead on as the first m did.
use Rattle.bracelet_next_inner.proofs.Lifting.{Leading}
use Rattle.bracelet_next_inner.proofs.complete.Given as goal

abbrev pub invariant-loop-i : goal.invariant-loop-i
invariant-loop-i l = Leading l.k l.initial.s l.m l.s l.i
