-- `home_nearest_inner::is_steady` meets its contract. The loop's invariant: none of the turns passed comes nearer than d.
use Rattle.words.proofs.Needs.{arith}
use Rattle.home_nearest_inner.proofs.Turning.{turned-start, turned_on, turned-near, turned-all}
use Rattle.home_nearest_inner.proofs.is_steady.Goals as goal

pub loop-j-init : goal.loop-j-init
loop-j-init c = turned-start c.requires

pub returns-then-differing_below-d : goal.returns-then-differing_below-d
returns-then-differing_below-d c = turned-near c.loop-j.invariant c.differing_below.ensures (omega (arith, c.loop-j-test.true)) c.if-differing_below-d.true

pub loop-j-preserved : goal.loop-j-preserved
loop-j-preserved c = turned_on c.loop-j.invariant c.differing_below.ensures (omega (arith, c.loop-j-test.true)) c.if-differing_below-d.false

pub returns : goal.returns
returns c = turned-all c.loop-j.invariant (omega (arith, c.loop-j-test.false))
