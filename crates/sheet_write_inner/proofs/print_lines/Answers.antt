-- `sheet_write_inner::print_lines` meets its contract: the targets below the place are written.
use Rattle.words.proofs.Needs.{◌-◌, arith, refl, ◌∙◌, length-take}
use Rattle.sheet_lines_inner.proofs.Lines.{reached-first}
use Rattle.sheet_write_inner.proofs.Inside.{step-inside}
use Rattle.sheet_write_inner.proofs.print_lines.Goals as goal

pub loop-j-init : goal.loop-j-init
loop-j-init c = (reached-first c.args.text.now, omega arith, c.requires.target_room_in_bounds, refl)

pub place_next-step-requires : goal.place_next-step-requires
place_next-step-requires c =
    record {
      count_value = (c.requires.ready_own.number, c.requires.ready_own.passed);
      line_reached = (c.loop-j.invariant.0, c.loop-j-test.true);
      target_room_in_bounds = c.loop-j.invariant.2;
    }

pub slice_bounds-write_all-end : goal.slice_bounds-write_all-end
slice_bounds-write_all-end c =
    let s = step-inside c.args.sheet _ c.loop-j.j _ c.loop-j.buf _ _ c.loop-j.invariant.2 c.place_next-step.ensures.target in
    omega (arith, s)

pub slice_bounds-write_all-end-in-loop-j : goal.slice_bounds-write_all-end-in-loop-j
slice_bounds-write_all-end-in-loop-j c =
    let s = step-inside c.args.sheet _ c.loop-j.j _ c.loop-j.buf _ _ c.loop-j.invariant.2
    c.place_next-step.ensures.target in
    simp length-take (omega (arith, s))

pub overflow_add-j : goal.overflow_add-j
overflow_add-j c = omega (arith, c.loop-j.invariant.0.few, c.loop-j.invariant.0.near)

pub loop-j-smaller : goal.loop-j-smaller
loop-j-smaller c = omega (arith, c.loop-j-test.true)

pub loop-j-preserved : goal.loop-j-preserved
loop-j-preserved c =
    let s = step-inside c.args.sheet _ c.loop-j.j _ c.loop-j.buf _ _ c.loop-j.invariant.2 c.place_next-step.ensures.target in
    (c.place_next-step.ensures.next, omega (arith, c.loop-j-test.true), omega (arith, s, c.loop-j.invariant.2), s.1 ∙ c.loop-j.invariant.3)

pub returns : goal.returns
returns c = omega (arith, c.loop-j.invariant.1, c.loop-j-test.false)
