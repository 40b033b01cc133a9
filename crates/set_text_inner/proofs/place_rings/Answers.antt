-- `set_text_inner::place_rings` meets its contract. The lines of the rings in the first j places are placed, one behind another.
use Rattle.words.proofs.Needs.{arith, length-take}
use Rattle.set_text_inner.proofs.Lines.{lines_start, lines-room, lines-on}
use Rattle.set_text_inner.proofs.place_rings.Goals as goal

pub loop-j-init : goal.loop-j-init
loop-j-init c = lines_start c.args.buf.now c.args.places.now c.args.n c.args.taken c.requires.rings c.requires.set_room_in_bounds

pub place_ring-at-requires : goal.place_ring-at-requires
place_ring-at-requires c =
    lines-room c.args.buf.now c.args.places.now c.args.n c.args.taken c.requires.rings c.requires.set_room_in_bounds c.loop-j.j c.loop-j.at c.loop-j.buf c.loop-j.invariant
    c.loop-j-test.true _ (simp length-take (omega arith))

pub loop-j-preserved : goal.loop-j-preserved
loop-j-preserved c =
    lines-on c.args.buf.now c.args.places.now c.args.n c.args.taken c.requires.rings
    c.requires.set_room_in_bounds c.loop-j.j c.loop-j.at c.loop-j.buf c.loop-j.invariant _ _ c.place_ring-at.ensures
