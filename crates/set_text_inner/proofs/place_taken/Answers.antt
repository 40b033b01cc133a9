-- `set_text_inner::place_taken` meets its contract: each piece stands behind the one before it, and there is room for all.
use Rattle.set_text_inner.proofs.Lines.{word_room, number-room, full-room, placed-full, short-room, placed-short-of}
use Rattle.set_text_inner.proofs.place_taken.Goals as goal

pub place_text-a-requires : goal.place_text-a-requires
place_text-a-requires c = word_room c.args.buf.now c.args.at c.args.taken c.args.full c.requires

pub place_decimal-b-requires : goal.place_decimal-b-requires
place_decimal-b-requires c =
    number-room c.args.buf.now c.args.at c.args.taken c.args.full c.requires _ _ c.place_text-a.ensures

pub place_text-requires : goal.place_text-requires
place_text-requires c =
    full-room c.args.buf.now c.args.at c.args.taken c.args.full c.requires _ _ c.place_text-a.ensures _ _
    c.place_decimal-b.ensures c.if-full.true

pub returns-then-full : goal.returns-then-full
returns-then-full c =
    placed-full c.args.buf.now c.args.at c.args.taken c.args.full c.requires _ _ c.place_text-a.ensures _ _
    c.place_decimal-b.ensures
    c.if-full.true _ _ c.place_text.ensures

pub place_text-requires-2 : goal.place_text-requires-2
place_text-requires-2 c =
    short-room c.args.buf.now c.args.at c.args.taken c.args.full c.requires _ _ c.place_text-a.ensures _ _
    c.place_decimal-b.ensures c.if-full.false

pub returns : goal.returns
returns c =
    placed-short-of c.args.buf.now c.args.at c.args.taken c.args.full c.requires _ _ c.place_text-a.ensures _ _
    c.place_decimal-b.ensures c.if-full.false
    _ _ c.place_text-2.ensures
