-- `test_records::each` is safe and ends: it counts up to 100.
use Rattle.words.proofs.Needs.{◌≤◌, ◌-◌}
use Rattle.test_records.proofs.each.Given as goal

abbrev pub invariant-loop-count : goal.invariant-loop-count
invariant-loop-count l = l.count ≤ 100

abbrev pub decreases-loop-count : goal.decreases-loop-count
decreases-loop-count l = 100 - l.count
