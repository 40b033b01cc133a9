-- `desk_rings_inner::each_long` meets its contract: c characters of the word under way have been seen.
use Rattle.words.proofs.Needs.{arith, refl}
use Rattle.desk_rings_inner.proofs.Long.{on-digit, on-space, on-wrong, on-end, long-true, long-false}
use Rattle.desk_rings_inner.proofs.each_long.Goals as goal

pub loop-a-init : goal.loop-a-init
loop-a-init c = (omega arith, omega arith, refl)

pub loop-a-preserved-then-a-ne32 : goal.loop-a-preserved-then-a-ne32
loop-a-preserved-then-a-ne32 c =
    (omega arith, omega (arith, c.loop-a.invariant.1), on-digit _ _ c.loop-a.a-index c.loop-a.c c.loop-a.invariant.2 c.loop-a-test.true c.if-a-ne32.true)

pub returns-then-c-n : goal.returns-then-c-n
returns-then-c-n c =
    long-false _ _ (on-wrong _ _ c.loop-a.a-index c.loop-a.c c.loop-a.invariant.2 c.loop-a-test.true c.if-a-ne32.false c.if-c-n.true)

pub loop-a-preserved : goal.loop-a-preserved
loop-a-preserved c =
    (omega arith, omega arith, on-space _ _ c.loop-a.a-index c.loop-a.c c.loop-a.invariant.2 c.loop-a-test.true c.if-a-ne32.false c.if-c-n.false)

pub returns : goal.returns
returns c = long-true _ _ (on-end _ _ c.loop-a.a-index c.loop-a.c c.loop-a.invariant.2 (omega (arith, c.loop-a-test.false)))
