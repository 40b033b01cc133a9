-- `strip_place_inner::stands` meets its contract. The loop's invariant: the first i sectors of the reading stand at place p.
use Rattle.strip_place_inner.proofs.Looking.{Agrees}
use Rattle.strip_place_inner.proofs.stands.Given as goal

abbrev pub invariant-loop-i : goal.invariant-loop-i
invariant-loop-i l = Agrees l.s l.p l.reading l.i
