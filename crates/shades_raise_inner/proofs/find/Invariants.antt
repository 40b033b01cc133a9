-- `shades_raise_inner::find` meets its contract. The loop: each place behind i is blocked, rem is what the counts leave beside the sectors before i, and al is w: a test hands back both as
-- they came.
use Rattle.words.proofs.Needs.{◌-◌, ◌≡◌}
use Rattle.shades_raise_inner.specs.Places.{Seeking}
use Rattle.shades_raise_inner.proofs.find.Given as goal

abbrev pub invariant-loop-w : goal.invariant-loop-w
invariant-loop-w l = Seeking l.w l.n l.k l.counts l.i l.rem × (l.al ≡ l.w)

abbrev pub decreases-loop-w : goal.decreases-loop-w
decreases-loop-w l = l.i
