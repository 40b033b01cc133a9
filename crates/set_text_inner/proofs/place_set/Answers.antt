-- `set_text_inner::place_set` meets its contract: the last line stands behind the rings, and there is room for it.
use Rattle.text_spec.proofs.Put.{placed-length, placed-append}
use Rattle.set_text_inner.proofs.Lines.{taken-room}
use Rattle.set_text_inner.proofs.place_set.Goals as goal

pub place_taken-requires : goal.place_taken-requires
place_taken-requires c =
    taken-room c.args.buf.now c.args.places.now c.args.n c.args.taken c.requires.rings c.requires.set_room_in_bounds _ _ c.args.full c.place_rings-at.ensures

pub shape_of-buf : goal.shape_of-buf
shape_of-buf c = placed-length _ _ _ _ _ (placed-append _ _ _ _ _ _ _ _ c.place_rings-at.ensures c.place_taken.ensures)

pub returns : goal.returns
returns c = placed-append _ _ _ _ _ _ _ _ c.place_rings-at.ensures c.place_taken.ensures
