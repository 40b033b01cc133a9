-- `test_converter::main` is safe and ends: it counts the cases, and the line keeps its length.
use Rattle.words.proofs.Needs.{◌≤◌, ◌-◌, ◌≡◌, length}
use Rattle.test_converter.proofs.main.Given as goal

abbrev pub invariant-loop : goal.invariant-loop
invariant-loop l = (length l.line ≡ 512) × (l.counter ≤ 1000)

abbrev pub decreases-loop : goal.decreases-loop
decreases-loop l = 1000 - l.counter
