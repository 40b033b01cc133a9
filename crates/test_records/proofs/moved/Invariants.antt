-- `test_records::moved` is safe and ends: it counts up to 1000, and the output keeps its length.
use Rattle.words.proofs.Needs.{◌≤◌, ◌-◌, ◌≡◌, length}
use Rattle.test_records.proofs.moved.Given as goal

abbrev pub invariant-loop : goal.invariant-loop
invariant-loop l = (length l.out ≡ length l.initial.out) × (l.counter ≤ 1000)

abbrev pub decreases-loop : goal.decreases-loop
decreases-loop l = 1000 - l.counter
