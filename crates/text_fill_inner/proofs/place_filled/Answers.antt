-- `text_fill_inner::place_filled` meets its contract. The loop's invariant, `Filling`: the first i characters are filled and placed.
use Rattle.words.proofs.Needs.{◌-◌, arith, refl, ◌∙◌, length-set}
use Rattle.text_spec.proofs.Put.{placed-length}
use Rattle.text_fill_inner.proofs.Filling.{filling-none, room-number, filling-number, room-ring, filling-ring, room-other, filling-other, filling-end}
use Rattle.text_fill_inner.proofs.place_filled.Goals as goal

pub loop-i-init : goal.loop-i-init
loop-i-init c =
    (omega arith, omega arith, omega arith, filling-none c.args.text.now c.args.numbers.now c.args.n c.args.rings.now c.args.buf.now c.args.at, refl)

pub place_decimal-p-requires : goal.place_decimal-p-requires
place_decimal-p-requires c =
    room-number _ _ _ _ _ _ _ _ _ _ _ c.loop-i.invariant.3 c.loop-i-test.true c.if-c-eq37.true
    c.number_at.result c.number_at.ensures c.requires

pub overflow_add-j : goal.overflow_add-j
overflow_add-j c = omega (arith, c.loop-i.invariant.1, c.loop-i-test.true)

pub loop-i-preserved-then-c-eq37 : goal.loop-i-preserved-then-c-eq37
loop-i-preserved-then-c-eq37 c = (
  omega arith,
  omega (arith, c.loop-i.invariant.1),
  c.loop-i.invariant.2,
  filling-number _ _ _ _ _ _ _ _ _ _ _ c.loop-i.invariant.3
      c.loop-i-test.true c.if-c-eq37.true
      c.number_at.result c.number_at.ensures _ _ c.place_decimal-p.ensures,
  placed-length _ _ _ _ _ c.place_decimal-p.ensures ∙ c.loop-i.invariant.4,
)

pub ring_end-e-requires : goal.ring_end-e-requires
ring_end-e-requires c = c.loop-i.invariant.2

pub slice_bounds-place_sectors-count : goal.slice_bounds-place_sectors-count
slice_bounds-place_sectors-count c = c.ring_end-e.ensures.0

pub place_sectors-p-requires : goal.place_sectors-p-requires
place_sectors-p-requires c =
    room-ring _ _ _ _ _ _ _ _ _ _ _ c.loop-i.invariant.3
    c.loop-i-test.true c.if-c-eq37.false
    c.if-c-eq64.true c.ring_end-e.result c.ring_end-e.ensures
    c.requires

pub loop-i-preserved-then-c-eq64 : goal.loop-i-preserved-then-c-eq64
loop-i-preserved-then-c-eq64 c = (
  omega arith,
  omega (arith, c.loop-i.invariant.1),
  c.ring_end-e.ensures.1,
  filling-ring _ _ _ _ _ _ _ _ _ _ _ c.loop-i.invariant.3 c.loop-i-test.true
      c.if-c-eq37.false c.if-c-eq64.true
      c.ring_end-e.result c.ring_end-e.ensures _ _ c.place_sectors-p.ensures,
  placed-length _ _ _ _ _ c.place_sectors-p.ensures ∙ c.loop-i.invariant.4,
)

pub bounds-buf-p : goal.bounds-buf-p
bounds-buf-p c =
    room-other _ _ _ _ _ _ _ _ _ _ _ c.loop-i.invariant.3 c.loop-i-test.true c.if-c-eq37.false c.if-c-eq64.false
    c.requires

pub overflow_add-p : goal.overflow_add-p
overflow_add-p c =
    omega (
      arith,
      c.loop-i.invariant.4,
      room-other _ _ _ _ _ _ _ _ _ _ _ c.loop-i.invariant.3 c.loop-i-test.true c.if-c-eq37.false
          c.if-c-eq64.false c.requires,
    )

pub loop-i-preserved : goal.loop-i-preserved
loop-i-preserved c = (
  omega arith,
  omega (arith, c.loop-i.invariant.1),
  c.loop-i.invariant.2,
  filling-other _ _ _ _ _ _ _ _ _ _ _ c.loop-i.invariant.3 c.loop-i-test.true
      c.if-c-eq37.false c.if-c-eq64.false,
  simp length-set c.loop-i.invariant.4,
)

pub shape_of-buf : goal.shape_of-buf
shape_of-buf c = c.loop-i.invariant.4

pub returns : goal.returns
returns c = filling-end _ _ _ _ _ _ _ _ _ _ _ c.loop-i.invariant.3 c.loop-i-test.false
