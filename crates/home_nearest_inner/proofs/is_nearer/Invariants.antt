-- `home_nearest_inner::is_nearer` meets its contract. The loop's invariant: no turn passed is nearer than d.
use Rattle.home_nearest_inner.proofs.Nearer.{NoneNearer}
use Rattle.home_nearest_inner.proofs.is_nearer.Given as goal

abbrev pub invariant-loop-j : goal.invariant-loop-j
invariant-loop-j l = NoneNearer l.a l.b l.d l.j
