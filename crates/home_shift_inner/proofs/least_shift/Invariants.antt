-- `home_shift_inner::least_shift` meets its contract. The loop's invariant: the shift is i, or it is not below j, and the two turns agree at the first m
-- places. The measure, 3 n less i + j + m, bounds the comparisons of two sectors: each turn of the loop makes one.
use Rattle.words.proofs.Plain.{◌+◌, ◌-◌, ◌*◌, length}
use Rattle.home_shift_inner.proofs.Seek.{Seeks}
use Rattle.home_shift_inner.proofs.least_shift.Given as goal

abbrev pub invariant-loop-j : goal.invariant-loop-j
invariant-loop-j l = Seeks l.s l.i l.j l.m

abbrev pub decreases-loop-j : goal.decreases-loop-j
decreases-loop-j l = 3 * length l.s - (l.i + l.j + l.m)
