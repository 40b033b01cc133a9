-- `desk_rings_inner::spell_words` meets its contract: up to place i the words are spelt, and c sectors of the word under way.
use Rattle.words.proofs.Needs.{arith, refl, length-set}
use Rattle.desk_rings_inner.proofs.Upto.{upto-start, upto-space, upto-digit, upto-bad, upto-end}
use Rattle.desk_rings_inner.proofs.spell_words.Goals as goal

pub loop-a-init : goal.loop-a-init
loop-a-init c = (c.requires, refl, upto-start _ _)

pub loop-a-preserved-then-a-eq32 : goal.loop-a-preserved-then-a-eq32
loop-a-preserved-then-a-eq32 c =
    (c.loop-a.invariant.0, c.loop-a.invariant.1, upto-space _ _ _ _ _ c.loop-a.invariant.2 c.loop-a-test.true c.if-a-eq32.true)

pub returns-in_err-v : goal.returns-in_err-v
returns-in_err-v c =
    rw c.from_residual.ensures (upto-bad _ c.loop-a.a-index c.loop-a-test.true c.if-a-eq32.false c.in_err-v.ensures)

pub loop-a-preserved : goal.loop-a-preserved
loop-a-preserved c =
    let d = c.in_ok-v.ensures in (
      simp length-set c.loop-a.invariant.0,
      simp length-set c.loop-a.invariant.1,
      upto-digit _ _ c.loop-a.a-index c.loop-a.m c.loop-a.c c.loop-a.invariant.2 c.loop-a-test.true _ d.0 d.1
          (omega (arith, c.loop-a-test.true, c.loop-a.invariant.0, c.loop-a.invariant.2.short)),
    )

pub shape_of-out : goal.shape_of-out
shape_of-out c = c.loop-a.invariant.1

pub returns : goal.returns
returns c =
    upto-end _ _ c.loop-a.a-index _ _ c.loop-a.invariant.2 (omega (arith, c.loop-a-test.false))
    (omega (arith, c.loop-a.invariant.0, c.loop-a.invariant.2.short, c.loop-a.invariant.2.inside))
