-- `strip_write_inner::write_from` meets its contract. The loop's invariant, `Writing`: the strip is written up to the place `at`, where the first `period` sectors of the
-- ring belong.
use Rattle.words.proofs.Needs.{arith, ◌∙◌, refl}
use Rattle.strip_write_inner.proofs.Writing.{writing_start, writing-room, writing-on, writing-end}
use Rattle.strip_write_inner.proofs.write_from.Goals as goal

pub loop-lyn-init : goal.loop-lyn-init
loop-lyn-init c = (writing_start _ _ _ c.requires.ready_to_step c.requires.ring_value c.requires.out_len, refl)

pub lay-requires : goal.lay-requires
lay-requires c = let r = writing-room _ _ _ _ _ _ c.loop-lyn.invariant.0 in record { p_in_bounds = r.1; p_in_bounds_2 = r.2 }

pub overflow_add-at : goal.overflow_add-at
overflow_add-at c = omega (arith, writing-room _ _ _ _ _ _ c.loop-lyn.invariant.0, c.loop-lyn.invariant.1)

pub advance-reached-requires : goal.advance-reached-requires
advance-reached-requires c = c.loop-lyn.invariant.0.ready

pub loop-lyn-smaller : goal.loop-lyn-smaller
loop-lyn-smaller c = omega (arith, writing-room _ _ _ _ _ _ c.loop-lyn.invariant.0, c.loop-lyn.invariant.1)

pub returns-in_default : goal.returns-in_default
returns-in_default c =
    let s = rw c.in_default.is at c.advance-reached.ensures in
    writing-end _ _ _ _ _ _ c.loop-lyn.invariant.0 _ c.lay.ensures s.0

pub loop-lyn-preserved : goal.loop-lyn-preserved
loop-lyn-preserved c =
    let s = rw c.in-Some.is at c.advance-reached.ensures in (
      writing-on _ _ _ _ _ _ c.loop-lyn.invariant.0 _ c.lay.ensures _ _ s.0 s.2,
      c.lay.ensures.long ∙ c.loop-lyn.invariant.1,
    )
