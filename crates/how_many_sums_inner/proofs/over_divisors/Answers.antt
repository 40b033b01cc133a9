-- `how_many_sums_inner::over_divisors` meets its contract. The loop's invariant: x is the sum up to d.
use Rattle.words.proofs.Needs.{arith}
use Rattle.how_many_number_spec.specs.Divisors.{when, divides, over_divisors}
use Rattle.how_many_sums_inner.specs.Weights.{powers}
use Rattle.how_many_number_laws.proofs.Loops.{sum-start, sum-on, sum-end}
use Rattle.how_many_sums_inner.proofs.over_divisors.Goals as goal

pub loop-d-init : goal.loop-d-init
loop-d-init c = (sum-start (λ j. when (divides j c.args.n) (powers c.args.w c.args.k c.args.n j)), omega arith)

pub summand-x-requires : goal.summand-x-requires
summand-x-requires c = record { small = c.requires; d_nonzero = omega arith; d_le_n = omega arith }

pub overflow_add-x : goal.overflow_add-x
overflow_add-x c = omega (arith, c.summand-x.ensures.1, c.requires.sized)

pub loop-d-preserved : goal.loop-d-preserved
loop-d-preserved c = (
  sum-on (λ j. when (divides j c.args.n) (powers c.args.w c.args.k c.args.n j)) c.loop-d.x c.loop-d.d
      c.summand-x.result c.loop-d.invariant.0 c.summand-x.ensures.0,
  omega (arith, c.summand-x.ensures.1),
)

pub returns : goal.returns
unfolding over_divisors
returns c =
    sum-end (λ j. when (divides j c.args.n) (powers c.args.w c.args.k c.args.n j)) c.loop-d.x _ c.args.n (omega arith) (omega arith) c.loop-d.invariant.0
