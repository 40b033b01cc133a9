-- `shades_tally_inner::untouched` meets its contract. The loop: the first b counts are copied.
use Rattle.shades_tally_inner.proofs.Leaving.{Leaving}
use Rattle.shades_tally_inner.proofs.untouched.Given as goal

abbrev pub invariant-loop-b : goal.invariant-loop-b
invariant-loop-b l = Leaving l.counts l.rem l.b
