-- `how_many_mu_inner::count_primes` meets its contract. The loop's invariant: x is the sum up to i.
use Rattle.words.proofs.Needs.{arith, ◌&&◌}
use Rattle.words.specs.Readings.{bit}
use Rattle.how_many_number_spec.specs.{Divisors.divides, Mu.prime, Mu.primes_of}
use Rattle.how_many_number_laws.proofs.Loops.{sum-start, sum-on, sum-end}
use Rattle.how_many_mu_inner.proofs.count_primes.Goals as goal

pub loop-i-init : goal.loop-i-init
loop-i-init c = (sum-start (λ j. bit (prime j && divides j c.args.m)), omega arith)

pub overflow_add-x : goal.overflow_add-x
overflow_add-x c = omega (arith, c.prime_divisor-x.ensures.1)

pub loop-i-preserved : goal.loop-i-preserved
loop-i-preserved c = (
  sum-on (λ j. bit (prime j && divides j c.args.m)) c.loop-i.x c.loop-i.i c.prime_divisor-x.result
      c.loop-i.invariant.0 c.prime_divisor-x.ensures.0,
  omega (arith, c.prime_divisor-x.ensures.1),
)

pub returns : goal.returns
unfolding primes_of
returns c = sum-end (λ j. bit (prime j && divides j c.args.m)) c.loop-i.x _ c.args.m (omega arith) (omega arith) c.loop-i.invariant.0
