-- `converter_turn_inner::write_all` meets its contract. The loop's invariant: with what becomes of the records that are left, the whole is converted.
use Rattle.words.proofs.Needs.{ℕ, ◌+◌, arith, ap, refl, length-take, length-drop}
use Rattle.converter_turn_inner.proofs.Going.{going-room, going_on, going-ended}
use Rattle.converter_turn_inner.proofs.write_all.Goals as goal

pub bounds-old-at : goal.bounds-old-at
bounds-old-at c = omega (arith, going-room _ _ _ c.loop-at.invariant c.loop-at-test.true)

pub slice_bounds-put_front-end : goal.slice_bounds-put_front-end
slice_bounds-put_front-end c = omega (arith, going-room _ _ _ c.loop-at.invariant c.loop-at-test.true, c.from.ensures)

pub put_front-requires : goal.put_front-requires
put_front-requires c =
    simp (length-take, length-drop) (omega (
      arith,
      going-room _ _ _ c.loop-at.invariant
          c.loop-at-test.true,
      c.loop-at.invariant.long,
      c.from.ensures,
    ))

pub loop-at-preserved : goal.loop-at-preserved
loop-at-preserved c =
    going_on _ _ _ c.loop-at.invariant c.loop-at-test.true _ _ _ (ap (λ (n : ℕ). c.loop-at.at + 4 + n) c.from.ensures) c.put_front.ensures refl

pub returns : goal.returns
returns c = going-ended _ _ _ c.loop-at.invariant c.loop-at-test.false
