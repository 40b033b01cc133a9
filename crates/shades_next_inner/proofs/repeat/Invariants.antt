-- `shades_next_inner::repeat` meets its contract. The loop: the first m sectors repeat the first p.
use Rattle.words.proofs.Needs.{◌-◌, length}
use Rattle.shades_next_inner.proofs.Repeating.{Copying}
use Rattle.shades_next_inner.proofs.repeat.Given as goal

abbrev pub invariant-loop-m : goal.invariant-loop-m
invariant-loop-m l = Copying l.p l.initial.s l.s l.m

abbrev pub decreases-loop-m : goal.decreases-loop-m
decreases-loop-m l = length l.initial.s - l.m
