-- `home_turns_inner::write_turn` meets its contract. The loop's invariant: the first m sectors are written.
use Rattle.words.proofs.Needs.{arith, ◌∙◌, sym}
use Rattle.words.specs.Turn.{turn}
use Rattle.words.proofs.Turn.{length-turn}
use Rattle.word_copy_laws.proofs.Written.{written_start, written-more, written-end}
use Rattle.home_turns_inner.proofs.write_turn.Goals as goal

pub loop-m-init : goal.loop-m-init
loop-m-init c = written_start (turn c.args.i c.args.s.now) c.args.out.now (c.requires.1 ∙ sym (length-turn c.args.i c.args.s.now c.requires.0))

pub bounds-out-m : goal.bounds-out-m
bounds-out-m c = omega (arith, c.loop-m.invariant.long, length-turn c.args.i c.args.s.now c.requires.0)

pub loop-m-preserved : goal.loop-m-preserved
loop-m-preserved c =
    written-more (turn c.args.i c.args.s.now) c.loop-m.out c.loop-m.m c.sector.result c.loop-m.invariant
    (omega (arith, length-turn c.args.i c.args.s.now c.requires.0)) c.sector.ensures

pub shape_of-out : goal.shape_of-out
shape_of-out c = omega (arith, c.loop-m.invariant.long, length-turn c.args.i c.args.s.now c.requires.0)

pub returns : goal.returns
returns c =
    written-end (turn c.args.i c.args.s.now) _ c.loop-m.m c.loop-m.invariant
    (omega (arith, length-turn c.args.i c.args.s.now c.requires.0))
