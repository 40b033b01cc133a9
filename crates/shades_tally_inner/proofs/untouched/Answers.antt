-- `shades_tally_inner::untouched` meets its contract. The loop: the first b counts are copied.
use Rattle.words.proofs.Needs.{arith}
use Rattle.shades_tally_inner.proofs.Leaving.{leave-start, leave-more, leave-end}
use Rattle.shades_tally_inner.proofs.untouched.Goals as goal

pub loop-b-init : goal.loop-b-init
loop-b-init c = leave-start _

pub loop-b-preserved : goal.loop-b-preserved
loop-b-preserved c = leave-more _ _ _ c.requires c.loop-b.invariant (omega arith)

pub returns : goal.returns
returns c = leave-end _ _ _ c.loop-b.invariant (omega arith)
