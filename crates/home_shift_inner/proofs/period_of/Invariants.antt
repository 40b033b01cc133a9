-- `home_shift_inner::period_of` meets its contract. The loop's invariant: nothing below p repeats the reading.
use Rattle.home_shift_inner.proofs.Least.{Unrepeated}
use Rattle.home_shift_inner.proofs.period_of.Given as goal

abbrev pub invariant-loop-p : goal.invariant-loop-p
invariant-loop-p l = Unrepeated l.s l.p
