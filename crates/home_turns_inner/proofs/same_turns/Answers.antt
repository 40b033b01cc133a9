-- `home_turns_inner::same_turns` meets its contract. The loop's invariant: what is left of the two turns from place m on decides.
use Rattle.words.proofs.Needs.{arith, ◌∙◌, sym, length}
use Rattle.words.specs.{Turn.turn}
use Rattle.words.proofs.Turn.{length-turn}
use Rattle.home_turns_inner.proofs.Rests.{same-no, same-on, same_end}
use Rattle.home_turns_inner.proofs.same_turns.Goals as goal

pub returns-then-sector : goal.returns-then-sector
returns-then-sector c =
    same-no (turn c.args.i c.args.a.now) (turn c.args.j c.args.b.now) (length c.args.a.now) c.loop-m.m c.sector.result
    c.sector-in-loop-m.result (length-turn c.args.i c.args.a.now c.requires.1) (length-turn c.args.j c.args.b.now c.requires.2 ∙ sym c.requires.0)
    c.loop-m-test.true c.sector.ensures c.sector-in-loop-m.ensures c.loop-m.invariant.1 c.if-sector.true

pub loop-m-preserved : goal.loop-m-preserved
loop-m-preserved c = (
  omega arith,
  same-on (turn c.args.i c.args.a.now) (turn c.args.j c.args.b.now) (length c.args.a.now) c.loop-m.m c.sector.result
      c.sector-in-loop-m.result (length-turn c.args.i c.args.a.now c.requires.1) (length-turn c.args.j c.args.b.now c.requires.2 ∙ sym c.requires.0)
      c.loop-m-test.true c.sector.ensures c.sector-in-loop-m.ensures c.loop-m.invariant.1 c.if-sector.false,
)

pub returns : goal.returns
returns c =
    same_end (turn c.args.i c.args.a.now) (turn c.args.j c.args.b.now) (length c.args.a.now) c.loop-m.m (length-turn c.args.i c.args.a.now c.requires.1)
    (length-turn c.args.j c.args.b.now c.requires.2 ∙ sym c.requires.0) c.loop-m-test.false c.loop-m.invariant.1
