-- `bracelet_test_inner::not_above_mirror` meets its contract. The loop's invariant, `Facing`: the turns passed are not below, and this one matches so far. Its
-- measure bounds the looks by 2 n.
use Rattle.words.proofs.Needs.{◌+◌, ◌-◌}
use Rattle.bracelet_test_inner.proofs.Facing.{Facing}
use Rattle.bracelet_test_inner.proofs.not_above_mirror.Given as goal

abbrev pub invariant-loop-i : goal.invariant-loop-i
invariant-loop-i l = Facing l.s l.i l.j

abbrev pub decreases-loop-i : goal.decreases-loop-i
decreases-loop-i l = l.n + l.n - (l.i + l.j)
