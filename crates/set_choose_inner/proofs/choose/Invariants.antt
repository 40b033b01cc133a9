-- `set_choose_inner::choose` meets its contract. Its loop is that of Along: the choice from the Lyndon words above the ring that the walk has come to, from those
-- taken on, is the set; each turn leaves fewer readings above.
use Rattle.words.specs.{Order.before, Readings.readings, Readings.count}
use Rattle.walk_spec.specs.Record.{ring_of}
use Rattle.set_choose_inner.proofs.Along.{Along}
use Rattle.set_choose_inner.proofs.choose.Given as goal

abbrev pub invariant-loop-taken : goal.invariant-loop-taken
invariant-loop-taken l = Along l.rule l.n l.k l.d l.wanted l.w l.places l.tallies l.taken

abbrev pub decreases-loop-taken : goal.decreases-loop-taken
decreases-loop-taken l = count (before (ring_of l.w)) (readings l.n l.k)
