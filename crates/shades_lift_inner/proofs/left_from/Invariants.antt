-- `shades_lift_inner::left_from` meets its contract. The loop: no shade from b up to x is left.
use Rattle.words.proofs.Needs.{◌-◌}
use Rattle.shades_lift_inner.proofs.Barring.{Leftless}
use Rattle.shades_lift_inner.proofs.left_from.Given as goal

abbrev pub invariant-loop-x : goal.invariant-loop-x
invariant-loop-x l = Leftless l.rem l.b l.k l.x

abbrev pub decreases-loop-x : goal.decreases-loop-x
decreases-loop-x l = l.k - l.x
