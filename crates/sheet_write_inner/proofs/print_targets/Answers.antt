-- `sheet_write_inner::print_targets` meets its contract: the targets below the place are written.
use Rattle.words.proofs.Needs.{◌-◌, arith, refl, ◌∙◌, length-take}
use Rattle.sheet_write_inner.proofs.Inside.{step-inside}
use Rattle.sheet_write_inner.proofs.print_targets.Goals as goal

pub loop-i-init : goal.loop-i-init
loop-i-init c = (omega arith, c.requires.target_room_in_bounds, refl)

pub place_step-m-requires : goal.place_step-m-requires
place_step-m-requires c =
    record {
      set_places = c.requires.ready_set.places;
      i_lt_count = (c.loop-i-test.true, c.loop-i.invariant.1);
      passed = c.requires.ready_set.passed c.loop-i.i c.loop-i-test.true;
    }

pub slice_bounds-write_all-end : goal.slice_bounds-write_all-end
slice_bounds-write_all-end c =
    let s = step-inside c.args.sheet _ c.loop-i.i _ c.loop-i.buf _ _ c.loop-i.invariant.1 c.place_step-m.ensures in
    omega (arith, s)

pub slice_bounds-write_all-end-in-loop-i : goal.slice_bounds-write_all-end-in-loop-i
slice_bounds-write_all-end-in-loop-i c =
    let s = step-inside c.args.sheet _ c.loop-i.i _ c.loop-i.buf _ _ c.loop-i.invariant.1
    c.place_step-m.ensures in
    simp length-take (omega (arith, s))

pub overflow_add-i : goal.overflow_add-i
overflow_add-i c = omega (
  arith,
  c.requires.ready_set.places.most,
  c.loop-i-test.true,
)

pub loop-i-smaller : goal.loop-i-smaller
loop-i-smaller c = omega (arith, c.loop-i-test.true)

pub loop-i-preserved : goal.loop-i-preserved
loop-i-preserved c =
    let s = step-inside c.args.sheet _ c.loop-i.i _ c.loop-i.buf _ _ c.loop-i.invariant.1
    c.place_step-m.ensures in
    (omega (arith, c.loop-i-test.true), omega (arith, s, c.loop-i.invariant.1), s.1 ∙ c.loop-i.invariant.2)

pub returns : goal.returns
returns c = omega (arith, c.loop-i.invariant.0, c.loop-i-test.false)
