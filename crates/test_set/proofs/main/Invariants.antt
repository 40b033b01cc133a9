-- `test_set::main` is safe and ends: it counts the cases, and the line and the buffer keep their lengths.
use Rattle.words.proofs.Needs.{◌≤◌, ◌-◌, ◌≡◌, length}
use Rattle.test_set.proofs.main.Given as goal

abbrev pub invariant-loop : goal.invariant-loop
invariant-loop l = (length l.line ≡ 64) × (length l.buf ≡ 818) × (l.counter ≤ 1000)

abbrev pub decreases-loop : goal.decreases-loop
decreases-loop l = 1000 - l.counter
