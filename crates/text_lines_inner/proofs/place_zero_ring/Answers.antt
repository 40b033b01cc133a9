-- `text_lines_inner::place_zero_ring` meets its contract: the two pieces stand behind each other, and there is room for both.
use Rattle.words.proofs.Needs.{arith}
use Rattle.text_spec.proofs.Put.{length-ring, zero_room, placed-zero}
use Rattle.text_lines_inner.proofs.place_zero_ring.Goals as goal

pub place_sectors-a-requires : goal.place_sectors-a-requires
place_sectors-a-requires c = omega (arith, c.requires, length-ring c.args.ring.now 0 1)

pub place_text-requires : goal.place_text-requires
place_text-requires c =
    zero_room c.args.buf.now c.args.at c.args.ring.now c.requires _ _ c.place_sectors-a.ensures

pub returns : goal.returns
returns c =
    placed-zero c.args.buf.now c.args.at c.args.ring.now c.requires _ _ c.place_sectors-a.ensures
    _ _ c.place_text.ensures
