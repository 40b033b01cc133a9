-- `desk_first_inner::sum_within` meets its contract.
use Rattle.desk_first_inner.proofs.Sums.{Summed}
use Rattle.desk_first_inner.proofs.sum_within.Given as goal

abbrev pub invariant-loop-x : goal.invariant-loop-x
invariant-loop-x l = Summed l.counts l.sum l.x-index
