-- `home_nearest_inner::nearest_turn` meets its contract. The loop's invariant: no turn by less than t comes as near as the two are apart.
use Rattle.words.proofs.Needs.{arith}
use Rattle.ring_home_laws.proofs.Alike.{apart-le}
use Rattle.home_nearest_inner.proofs.Turning.{not-yet-start, not-yet-on, not-yet-found, not-yet-never}
use Rattle.home_nearest_inner.proofs.nearest_turn.Goals as goal

pub overflow_add-limit : goal.overflow_add-limit
overflow_add-limit c = omega (arith, c.requires.2, apart-le c.args.a.now c.args.b.now)

pub loop-t-init : goal.loop-t-init
loop-t-init c = not-yet-start

pub returns-then-differing_below-best : goal.returns-then-differing_below-best
returns-then-differing_below-best c =
    not-yet-found c.loop-t.invariant c.requires.2 c.differing_below.ensures c.loop-t-test.true c.if-differing_below-best.true

pub loop-t-preserved : goal.loop-t-preserved
loop-t-preserved c =
    not-yet-on c.loop-t.invariant c.requires.2 c.differing_below.ensures c.loop-t-test.true c.if-differing_below-best.false

pub returns : goal.returns
returns c = absurd (not-yet-never c.requires.0 c.loop-t.invariant c.loop-t-test.false)
