-- `sheet_write_inner::print_lines` meets its contract: the targets below the place are written.
use Rattle.words.proofs.Needs.{◌-◌, ◌≤◌, ◌≡◌, length}
use Rattle.sheet_spec.specs.Says.{target_room}
use Rattle.sheet_lines_inner.specs.Says.{LineReached}
use Rattle.sheet_write_inner.proofs.print_lines.Given as goal

abbrev pub invariant-loop-j : goal.invariant-loop-j
invariant-loop-j l = LineReached l.text l.at l.j × (l.j ≤ l.count) × (target_room ≤ length l.buf) × (length l.buf ≡ length l.initial.buf)

abbrev pub decreases-loop-j : goal.decreases-loop-j
decreases-loop-j l = l.count - l.j
