-- `test_report::spell` meets its contract. The loop's invariant: the place is inside the output, which keeps its length.
use Rattle.words.proofs.Needs.{◌-◌, ◌≤◌, ◌≡◌, length}
use Rattle.test_report.proofs.spell.Given as goal

abbrev pub invariant-loop-i : goal.invariant-loop-i
invariant-loop-i l = (l.i ≤ length l.initial.out) × (length l.out ≡ length l.initial.out)

abbrev pub decreases-loop-i : goal.decreases-loop-i
decreases-loop-i l = length l.initial.out - l.i
