-- `classify_inner::scan` meets its contract. The loop's invariant: the first i sectors are a run of i - j.
use Rattle.words.proofs.Needs.{◌≤◌, ◌-◌}
use Rattle.classify_inner.proofs.Scanning.{Runs}
use Rattle.classify_inner.proofs.scan.Given as goal

abbrev pub invariant-loop-i : goal.invariant-loop-i
invariant-loop-i l = (l.i ≤ l.n) × Runs l.s l.i l.j

abbrev pub decreases-loop-i : goal.decreases-loop-i
decreases-loop-i l = l.n - l.i
