-- `home_nearest_inner::fewest_differing` meets its contract. The loop's invariant: the two are at most best apart, and no turn passed differs at fewer
-- places.
use Rattle.words.proofs.Needs.{arith}
use Rattle.home_nearest_inner.proofs.Fewest.{nearest-start, nearest-more, nearest-none, nearest-end}
use Rattle.home_nearest_inner.proofs.fewest_differing.Goals as goal

pub loop-i-init : goal.loop-i-init
loop-i-init c = nearest-start

pub returns-then-best-eq0 : goal.returns-then-best-eq0
returns-then-best-eq0 c = nearest-none (nearest-more c.loop-i.invariant (omega (arith, c.loop-i-test.true)) c.differing_below-best.ensures) c.if-best-eq0.true

pub loop-i-preserved : goal.loop-i-preserved
loop-i-preserved c = nearest-more c.loop-i.invariant (omega (arith, c.loop-i-test.true)) c.differing_below-best.ensures

pub returns : goal.returns
returns c = nearest-end c.loop-i.invariant (omega (arith, c.loop-i-test.false))
