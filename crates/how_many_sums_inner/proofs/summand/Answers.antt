-- `how_many_sums_inner::summand` meets its contract.
use Rattle.words.proofs.Needs.{◌≤◌, arith}
use Rattle.how_many_sums_inner.proofs.{Powers.power-fits, Powers.product-fits, Sums.summand-none, Sums.summand-some}
use Rattle.how_many_sums_inner.proofs.Powers.{limit}
use Rattle.how_many_sums_inner.proofs.summand.Goals as goal

pub returns-then-n-d-ne0 : goal.returns-then-n-d-ne0
returns-then-n-d-ne0 c = (summand-none c.args.w c.args.k c.args.n c.args.d c.if-n-d-ne0.true, omega arith)

pub power-requires : goal.power-requires
power-requires c = record { k_nonzero = omega (arith, c.requires); e_bound = power-fits c.args.k (omega (arith, c.requires)) c.args.n c.args.d c.requires.small.few }

pub overflow_mul-result : goal.overflow_mul-result
overflow_mul-result c =
    let b : c.power.result ≤ limit = omega (
      arith,
      c.power.ensures,
      power-fits c.args.k (omega (arith, c.requires)) c.args.n
          c.args.d c.requires.small.few,
    ) in omega (arith, product-fits c.weigh.result c.power.result c.weigh.ensures.1 b)

pub returns : goal.returns
returns c =
    let b : c.power.result ≤ limit = omega (
      arith,
      c.power.ensures,
      power-fits c.args.k (omega (arith, c.requires)) c.args.n
          c.args.d c.requires.small.few,
    ) in (
      summand-some c.args.w c.args.k c.args.n c.args.d c.weigh.result c.power.result
          c.if-n-d-ne0.false c.weigh.ensures.0 c.power.ensures,
      product-fits c.weigh.result c.power.result
          c.weigh.ensures.1 b,
    )
