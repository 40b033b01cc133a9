-- `check_counts_inner::counts_fit` meets its contract. The loop's invariant: what is left is n less the counts passed, said as a sum.
use Rattle.words.proofs.Needs.{◌+◌, ◌≡◌, drop}
use Rattle.words.specs.Sum.{sum_of}
use Rattle.check_counts_inner.proofs.counts_fit.Given as goal

abbrev pub invariant-loop-x : goal.invariant-loop-x
invariant-loop-x l = sum_of l.counts + l.left ≡ l.n + sum_of (drop l.x-index l.counts)
