-- `how_many_mu_inner::count_primes` meets its contract. The loop's invariant: x is the sum up to i.
use Rattle.words.proofs.Needs.{◌≤◌, ◌≡◌, ◌&&◌}
use Rattle.words.specs.Readings.{bit}
use Rattle.how_many_number_spec.specs.{Divisors.sum_to, Divisors.divides, Mu.prime}
use Rattle.how_many_mu_inner.proofs.count_primes.Given as goal

abbrev pub invariant-loop-i : goal.invariant-loop-i
invariant-loop-i l = (l.x ≡ sum_to l.i (λ j. bit (prime j && divides j l.m))) × (l.x ≤ l.i)
