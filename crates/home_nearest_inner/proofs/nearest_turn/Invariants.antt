-- `home_nearest_inner::nearest_turn` meets its contract. The loop's invariant: no turn by less than t comes as near as the two are apart.
use Rattle.home_nearest_inner.proofs.Turning.{NotYet}
use Rattle.home_nearest_inner.proofs.nearest_turn.Given as goal

abbrev pub invariant-loop-t : goal.invariant-loop-t
invariant-loop-t l = NotYet l.a l.b l.t
