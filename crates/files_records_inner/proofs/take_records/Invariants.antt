-- `files_records_inner::take_records` meets its contract: what is done so far are records whose texts stand at the beginning of the output (Going), and each turn takes one more.
use Rattle.words.proofs.Needs.{◌-◌, ◌≡◌, length}
use Rattle.files_records_inner.proofs.Going.{Going}
use Rattle.files_records_inner.proofs.take_records.Given as goal

abbrev pub invariant-loop-ring : goal.invariant-loop-ring
invariant-loop-ring l = Going l.job l.place l.block l.initial.out l.i l.len l.out × (length l.ring ≡ 64)

abbrev pub decreases-loop-ring : goal.decreases-loop-ring
decreases-loop-ring l = length l.block - l.i
