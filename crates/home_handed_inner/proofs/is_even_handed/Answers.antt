-- `home_handed_inner::is_even_handed` meets its contract. The outer loop's invariant: no turn passed is the reading; the inner one's: this turn
-- matches in each sector passed.
use Rattle.words.proofs.Needs.{arith, ◌∙◌}
use Rattle.home_handed_inner.proofs.Mirror.{mirrors-more, mirrors-yes, mirrors-no, unmirrored-more, unmirrored-end}
use Rattle.home_handed_inner.proofs.is_even_handed.Goals as goal

pub turns-preserved : goal.turns-preserved
turns-preserved c = (
  omega (arith, c.loop-m.invariant.0),
  c.turns.invariant.1,
  unmirrored-more c.args.s.now c.turns.t (rw c.loop-m.invariant.0 c.turns.invariant.2) (mirrors-no c.args.s.now c.turns.t c.loop-m.m c.around.result (omega (arith, c.loop-m.invariant.0))
      c.loop-m-test.true c.around.ensures c.if-s-p.true),
)

pub loop-m-preserved : goal.loop-m-preserved
loop-m-preserved c = (
  c.loop-m.invariant.0,
  omega arith,
  mirrors-more c.args.s.now c.turns.t c.loop-m.m c.around.result (omega (arith, c.loop-m.invariant.0)) c.loop-m-test.true
      c.around.ensures c.loop-m.invariant.2 c.if-s-p.false,
)

pub returns-after-turns : goal.returns-after-turns
returns-after-turns c =
    c.turns.invariant.1 ∙ unmirrored-end c.args.s.now c.turns.t c.turns.invariant.2 c.turns-test.false

pub returns-after-loop-m : goal.returns-after-loop-m
returns-after-loop-m c =
    mirrors-yes c.args.s.now c.turns.t c.loop-m.m (omega (arith, c.loop-m.invariant.0)) c.loop-m-test.false c.loop-m.invariant.2
