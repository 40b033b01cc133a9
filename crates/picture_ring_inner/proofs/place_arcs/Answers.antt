-- `picture_ring_inner::place_arcs` meets its contract. The invariant, `Drawing`: the first i sectors are drawn, and `before` is the last one's shade.
use Rattle.words.proofs.Needs.{arith, refl, ◌∙◌}
use Rattle.text_form_inner.proofs.Fits.{fits-length}
use Rattle.picture_ring_inner.proofs.Drawing.{drawing-none, drawing-room, drawing-on, drawing-end}
use Rattle.picture_ring_inner.proofs.place_arcs.Goals as goal

pub loop-i-init : goal.loop-i-init
loop-i-init c =
    (drawing-none c.args.tone c.args.k c.args.ring.now c.args.o c.args.buf.now c.args.at, refl)

pub place_sector-p-requires : goal.place_sector-p-requires
place_sector-p-requires c = record {
  le_k = (c.requires.le_k.0, c.requires.le_k.1, c.requires.le_k.2, c.requires.le_k.3, c.loop-i-test.true);
  below = c.requires.below;
  at_in_bounds = drawing-room _ _ _ _ _ _ _ _ _ _ c.loop-i.invariant.0 c.loop-i-test.true
      c.requires.le_k.2 c.requires.at_in_bounds;
}

pub loop-i-preserved : goal.loop-i-preserved
loop-i-preserved c = (
  drawing-on _ _ _ _ _ _ _ _ _ _ c.loop-i.invariant.0
      c.loop-i-test.true _ _ refl _ c.place_sector-p.ensures,
  fits-length
      c.place_sector-p.ensures ∙ c.loop-i.invariant.1,
)

pub returns : goal.returns
returns c = drawing-end _ _ _ _ _ _ _ _ _ _ c.loop-i.invariant.0 c.loop-i-test.false (omega (arith, c.loop-i.auto.i-end, c.requires.le_k.2))
