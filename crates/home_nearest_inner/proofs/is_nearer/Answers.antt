-- `home_nearest_inner::is_nearer` meets its contract. The loop's invariant: no turn passed is nearer than d.
use Rattle.home_nearest_inner.proofs.Nearer.{turns-start, turns_more, turns-found, turns-end}
use Rattle.home_nearest_inner.proofs.is_nearer.Goals as goal

pub loop-j-init : goal.loop-j-init
loop-j-init c = turns-start

pub returns-then-differing_below-d : goal.returns-then-differing_below-d
returns-then-differing_below-d c = turns-found c.loop-j.invariant c.differing_below.ensures c.loop-j-test.true c.if-differing_below-d.true

pub loop-j-preserved : goal.loop-j-preserved
loop-j-preserved c = turns_more c.loop-j.invariant c.differing_below.ensures c.loop-j-test.true c.if-differing_below-d.false

pub returns : goal.returns
returns c = turns-end c.requires.0 c.loop-j.invariant c.loop-j-test.false
