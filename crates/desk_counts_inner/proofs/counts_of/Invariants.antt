-- `desk_counts_inner::counts_of` meets its contract.
use Rattle.words.proofs.Needs.{◌-◌, ◌≡◌, length}
use Rattle.desk_counts_inner.proofs.Counting.{Begun}
use Rattle.desk_counts_inner.proofs.counts_of.Given as goal

abbrev pub invariant-loop-x : goal.invariant-loop-x
invariant-loop-x l = Begun l.t l.out l.m l.at × (length l.out ≡ length l.initial.out)

abbrev pub decreases-loop-x : goal.decreases-loop-x
decreases-loop-x l = length l.t - l.at
