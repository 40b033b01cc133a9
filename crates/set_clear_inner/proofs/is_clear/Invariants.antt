-- `set_clear_inner::is_clear` meets its contract. The ring is at least d apart from the readings in the places from j on.
use Rattle.set_clear_inner.proofs.Clear.{ClearFrom}
use Rattle.set_clear_inner.proofs.is_clear.Given as goal

abbrev pub invariant-loop-j : goal.invariant-loop-j
invariant-loop-j l = ClearFrom l.d l.places l.taken l.ring l.j
