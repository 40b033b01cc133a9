-- `sheet_write_inner::print_targets` meets its contract: the targets below the place are written.
use Rattle.words.proofs.Needs.{◌-◌, ◌≤◌, ◌≡◌, length}
use Rattle.sheet_spec.specs.Says.{target_room}
use Rattle.sheet_write_inner.proofs.print_targets.Given as goal

abbrev pub invariant-loop-i : goal.invariant-loop-i
invariant-loop-i l = (l.i ≤ l.count) × (target_room ≤ length l.buf) × (length l.buf ≡ length l.initial.buf)

abbrev pub decreases-loop-i : goal.decreases-loop-i
decreases-loop-i l = l.count - l.i
