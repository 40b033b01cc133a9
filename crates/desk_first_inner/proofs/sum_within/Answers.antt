-- `desk_first_inner::sum_within` meets its contract.
use Rattle.words.proofs.Needs.{arith}
use Rattle.desk_first_inner.proofs.Sums.{summed-none, summed-more, summed-over, summed-all}
use Rattle.desk_first_inner.proofs.sum_within.Goals as goal

pub loop-x-init : goal.loop-x-init
loop-x-init c = summed-none c.args.counts.now

pub overflow_sub-sum : goal.overflow_sub-sum
overflow_sub-sum c = omega (arith, c.loop-x.invariant.small)

pub returns-then-sum-x : goal.returns-then-sum-x
returns-then-sum-x c =
    summed-over c.args.counts.now c.loop-x.sum c.loop-x.x-index c.loop-x.invariant c.loop-x-test.true c.if-sum-x.true

pub overflow_add-sum : goal.overflow_add-sum
overflow_add-sum c = omega (arith, c.loop-x.invariant.small, c.if-sum-x.false)

pub loop-x-preserved : goal.loop-x-preserved
loop-x-preserved c =
    summed-more c.args.counts.now c.loop-x.sum c.loop-x.x-index c.loop-x.invariant c.loop-x-test.true (omega (arith, c.if-sum-x.false))

pub returns : goal.returns
returns c =
    summed-all c.args.counts.now c.loop-x.sum c.loop-x.x-index c.loop-x.invariant (omega (arith, c.loop-x-test.false))
