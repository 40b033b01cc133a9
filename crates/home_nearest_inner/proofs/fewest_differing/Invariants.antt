-- `home_nearest_inner::fewest_differing` meets its contract. The loop's invariant: the two are at most best apart, and no turn passed differs at fewer
-- places.
use Rattle.home_nearest_inner.proofs.Fewest.{Nearest}
use Rattle.home_nearest_inner.proofs.fewest_differing.Given as goal

abbrev pub invariant-loop-i : goal.invariant-loop-i
invariant-loop-i l = Nearest l.a l.b l.i l.best
