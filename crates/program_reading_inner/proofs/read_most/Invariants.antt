-- `program_reading_inner::read_most` meets its contract. The measure is the room that is left.
use Rattle.words.proofs.Needs.{◌-◌, ◌≤◌, ◌≡◌, length}
use Rattle.program_reading_inner.proofs.read_most.Given as goal

abbrev pub invariant-loop-at : goal.invariant-loop-at
invariant-loop-at g l = (l.at ≤ length l.buf) × (length l.buf ≡ length l.initial.buf)

abbrev pub decreases-loop-at : goal.decreases-loop-at
decreases-loop-at g l = length l.initial.buf - l.at
