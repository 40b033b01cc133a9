-- `set_text_inner::place_ring` meets its contract: the two pieces stand behind each other, and there is room for both.
use Rattle.words.proofs.Needs.{arith}
use Rattle.set_text_spec.proofs.Lengths.{length-ring-text}
use Rattle.set_text_inner.proofs.Lines.{ring-room, placed-ring-text}
use Rattle.set_text_inner.proofs.place_ring.Goals as goal

pub place_sectors-a-requires : goal.place_sectors-a-requires
place_sectors-a-requires c = omega (arith, c.requires, length-ring-text c.args.ring.now)

pub place_text-requires : goal.place_text-requires
place_text-requires c =
    ring-room c.args.buf.now c.args.at c.args.ring.now c.requires _ _ c.place_sectors-a.ensures

pub returns : goal.returns
returns c =
    placed-ring-text c.args.buf.now c.args.at c.args.ring.now c.requires _ _
    c.place_sectors-a.ensures _ _ c.place_text.ensures
