-- `strip_write_inner::write_from` meets its contract. The loop's invariant, `Writing`: the strip is written up to the place `at`, where the first `period` sectors of the
-- ring belong.
use Rattle.words.proofs.Needs.{◌-◌, ◌≡◌, length}
use Rattle.strip_write_inner.proofs.Writing.{Writing}
use Rattle.strip_write_inner.proofs.write_from.Given as goal

abbrev pub invariant-loop-lyn : goal.invariant-loop-lyn
invariant-loop-lyn l = Writing (length l.initial.ring) l.k l.ring l.at l.period l.out × (length l.out ≡ length l.initial.out)

abbrev pub decreases-loop-lyn : goal.decreases-loop-lyn
decreases-loop-lyn l = length l.initial.out - l.at
