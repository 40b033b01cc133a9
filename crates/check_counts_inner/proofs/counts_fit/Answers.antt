-- `check_counts_inner::counts_fit` meets its contract. The loop's invariant: what is left is n less the counts passed, said as a sum.
use Rattle.words.proofs.Needs.{arith}
use Rattle.check_counts_inner.proofs.Sum.{sum-on, sum_over, sum-end, told-equal}
use Rattle.check_counts_inner.proofs.counts_fit.Goals as goal

pub returns-then-left-x : goal.returns-then-left-x
returns-then-left-x c =
    λ q. sum_over _ _ _ _ c.loop-x.invariant (omega arith) c.if-left-x.true q.1

pub loop-x-preserved : goal.loop-x-preserved
loop-x-preserved c =
    sum-on _ _ _ _ c.loop-x.invariant (omega arith) c.if-left-x.false

pub returns : goal.returns
returns c =
    let e = sum-end c.args.counts.now c.args.n c.loop-x.x-index c.loop-x.left c.loop-x.invariant c.loop-x-test.false in
    told-equal c.loop-x.left 0 _ (λ z. (c.if-counts-k.false, omega (arith, e, z))) (λ q. omega (arith, e, q.1))
