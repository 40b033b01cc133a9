-- `home_nearest_inner::is_steady` meets its contract. The loop's invariant: none of the turns passed comes nearer than d.
use Rattle.home_nearest_inner.proofs.Turning.{FarTurns}
use Rattle.home_nearest_inner.proofs.is_steady.Given as goal

abbrev pub invariant-loop-j : goal.invariant-loop-j
invariant-loop-j l = FarTurns l.d l.s l.j
