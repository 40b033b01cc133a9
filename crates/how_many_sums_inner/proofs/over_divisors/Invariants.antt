-- `how_many_sums_inner::over_divisors` meets its contract. The loop's invariant: x is the sum up to d.
use Rattle.words.proofs.Needs.{◌≤◌, ◌*◌, ◌≡◌}
use Rattle.how_many_number_spec.specs.Divisors.{when, sum_to, divides}
use Rattle.how_many_sums_inner.specs.Weights.{powers}
use Rattle.how_many_sums_inner.proofs.over_divisors.Given as goal

abbrev pub invariant-loop-d : goal.invariant-loop-d
invariant-loop-d l = (l.x ≡ sum_to l.d (λ j. when (divides j l.n) (powers l.w l.k l.n j))) × (l.x ≤ l.d * 274877906944)
