-- `home_differing_inner::differing_below` meets its contract. The loop's invariant: d is at most limit, and d and what is left of the two from place m on give the
-- number.
use Rattle.words.proofs.Needs.{◌≤◌, ◌+◌, ◌≡◌, drop}
use Rattle.words.specs.Turn.{turn}
use Rattle.rings.specs.Alike.{differing}
use Rattle.home_differing_inner.proofs.differing_below.Given as goal

abbrev pub invariant-loop-m : goal.invariant-loop-m
invariant-loop-m l = (l.d + differing (drop l.m (turn l.i l.a)) (drop l.m l.b) ≡ differing (turn l.i l.a) l.b) × (l.d ≤ l.m) × (l.d ≤ l.limit)
