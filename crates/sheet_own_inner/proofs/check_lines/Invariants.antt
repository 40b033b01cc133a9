-- `sheet_own_inner::check_lines` meets its contract: the lines before the place pass.
use Rattle.words.proofs.Needs.{◌+◌, ◌-◌, ◌≡◌, length}
use Rattle.stream_spec.specs.Lines.{lines}
use Rattle.sheet_own_inner.specs.Says.{LinesPass}
use Rattle.sheet_lines_inner.specs.Says.{LineReached}
use Rattle.sheet_own_inner.proofs.check_lines.Given as goal

abbrev pub invariant-loop-at : goal.invariant-loop-at
invariant-loop-at l = LineReached l.s l.at l.i × LinesPass l.sheet (lines l.s) l.i × (length l.ring ≡ length l.initial.ring)

abbrev pub decreases-loop-at : goal.decreases-loop-at
decreases-loop-at l = length l.s + 1 - l.at
