-- `desk_floats_inner::write_floats` meets its contract.
use Rattle.words.proofs.Needs.{◌≡◌, length}
use Rattle.desk_floats_inner.specs.Says.{FloatsSay}
use Rattle.desk_floats_inner.proofs.write_floats.Given as goal

abbrev pub invariant-loop-i : goal.invariant-loop-i
invariant-loop-i l = (length l.out ≡ length l.initial.out) × FloatsSay l.s l.i l.out
