-- `strip_place_inner::place_in` meets its contract. The loop's invariant: the reading stands at no place before p.
use Rattle.strip_place_inner.proofs.Looking.{Passed}
use Rattle.strip_place_inner.proofs.place_in.Given as goal

abbrev pub invariant-loop-p : goal.invariant-loop-p
invariant-loop-p l = Passed l.s l.reading l.p
