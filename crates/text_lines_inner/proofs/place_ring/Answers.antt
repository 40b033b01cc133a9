-- `text_lines_inner::place_ring` meets its contract: each piece stands behind the one before it, and there is room for all.
use Rattle.words.proofs.Plain.{arith}
use Rattle.text_spec.proofs.Put.{length-ring, placed-length, room-first, room-moves, room-second, room-period, room-end, placed-ring}
use Rattle.text_lines_inner.proofs.place_ring.Goals as goal

pub place_sectors-a-requires : goal.place_sectors-a-requires
place_sectors-a-requires c =
    omega (arith, c.requires, length-ring c.args.ring.now c.args.moves c.args.period)

pub bounds-buf-a : goal.bounds-buf-a
bounds-buf-a c =
    let l = length-ring c.args.ring.now c.args.moves c.args.period in
    (room-first _ _ c.args.ring.now _ _ c.place_sectors-a.ensures (omega (arith, c.requires, l))).1

pub overflow_add-a : goal.overflow_add-a
overflow_add-a c =
    let l = length-ring c.args.ring.now c.args.moves c.args.period in
    omega (arith, (room-first _ _ c.args.ring.now _ _ c.place_sectors-a.ensures (omega (arith, c.requires, l))).0)

pub place_decimal-b-requires : goal.place_decimal-b-requires
place_decimal-b-requires c =
    let l = length-ring c.args.ring.now c.args.moves c.args.period in
    room-moves _ _ c.args.ring.now _ _ c.place_sectors-a.ensures _ (omega (arith, c.requires, l))

pub bounds-buf-b : goal.bounds-buf-b
bounds-buf-b c =
    let l = length-ring c.args.ring.now c.args.moves c.args.period in
    (room-second _ _ c.args.ring.now _ _ c.place_sectors-a.ensures _ _ _ c.place_decimal-b.ensures (omega (arith, c.requires, l))).1

pub overflow_add-b : goal.overflow_add-b
overflow_add-b c =
    let l = length-ring c.args.ring.now c.args.moves c.args.period in
    omega (
      arith,
      (room-second _ _ c.args.ring.now _ _ c.place_sectors-a.ensures _ _ _
          c.place_decimal-b.ensures (omega (arith, c.requires, l))).0,
    )

pub place_decimal-c-requires : goal.place_decimal-c-requires
place_decimal-c-requires c =
    let l = length-ring c.args.ring.now c.args.moves c.args.period in
    room-period _ _ c.args.ring.now _ _ c.place_sectors-a.ensures _ _ _
    c.place_decimal-b.ensures _ (omega (arith, c.requires, l))

pub bounds-buf-c : goal.bounds-buf-c
bounds-buf-c c =
    let l = length-ring c.args.ring.now c.args.moves c.args.period in
    (room-end _ _ c.args.ring.now _ _ c.place_sectors-a.ensures _ _ _
    c.place_decimal-b.ensures _ _ _ c.place_decimal-c.ensures
    (omega (arith, c.requires, l))).1

pub overflow_add-result : goal.overflow_add-result
overflow_add-result c =
    let l = length-ring c.args.ring.now c.args.moves c.args.period in
    omega (
      arith,
      (room-end _ _ c.args.ring.now _ _
          c.place_sectors-a.ensures _ _ _
          c.place_decimal-b.ensures _ _ _ c.place_decimal-c.ensures
          (omega (arith, c.requires, l))).0,
    )

pub shape_of-buf : goal.shape_of-buf
shape_of-buf c =
    placed-length _ _ _ _ _ (placed-ring _ _ c.args.ring.now _ _
    c.place_sectors-a.ensures _ _ _
    c.place_decimal-b.ensures _ _ _ c.place_decimal-c.ensures)

pub returns : goal.returns
returns c =
    placed-ring _ _ c.args.ring.now _ _ c.place_sectors-a.ensures _ _
    _ c.place_decimal-b.ensures _ _ _ c.place_decimal-c.ensures
