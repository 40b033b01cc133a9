-- `home_handed_inner::is_even_handed` meets its contract. The outer loop's invariant: no turn passed is the reading; the inner one's: this turn
-- matches in each sector passed.
use Rattle.words.proofs.Needs.{◌≤◌, ◌-◌, ◌≡◌, false}
use Rattle.home_handed_inner.proofs.Mirror.{Mirrors, Unmirrored}
use Rattle.home_handed_inner.proofs.is_even_handed.Given as goal

abbrev pub invariant-loop-m : goal.invariant-loop-m
invariant-loop-m l = (l.t ≡ l.initial.t) × (l.m ≤ l.n) × Mirrors l.s l.t l.m

abbrev pub invariant-turns : goal.invariant-turns
invariant-turns l = (l.t ≤ l.n) × (l.found ≡ false) × Unmirrored l.s l.t

abbrev pub decreases-loop-m : goal.decreases-loop-m
decreases-loop-m l = l.n - l.m

abbrev pub decreases-turns : goal.decreases-turns
decreases-turns l = l.n - l.t
