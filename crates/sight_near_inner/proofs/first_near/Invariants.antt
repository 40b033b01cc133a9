-- `sight_near_inner::first_near` meets its contract. The loop's invariant: the rings from `from` up to j are further than `most` from the reading.
use Rattle.sight_near_inner.proofs.Looking.{FarTo}
use Rattle.sight_near_inner.proofs.first_near.Given as goal

abbrev pub invariant-loop-j : goal.invariant-loop-j
invariant-loop-j l = FarTo l.most l.rings l.reading l.from l.j
