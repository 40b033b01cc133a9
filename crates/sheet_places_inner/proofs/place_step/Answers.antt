-- `sheet_places_inner::place_step` meets its contract.
use Rattle.words.proofs.Needs.{arith}
use Rattle.std.specs.Prelude.{Ok, Err}
use Rattle.sheet_places_inner.proofs.Places.{step-placed, step-never}
use Rattle.sheet_places_inner.proofs.place_step.Goals as goal

pub overflow_mul-from : goal.overflow_mul-from
overflow_mul-from c = omega (arith, c.requires.set_places.most, c.requires.i_lt_count)

pub overflow_add-to : goal.overflow_add-to
overflow_add-to c = omega (arith, c.requires.set_places.most, c.requires.set_places.short, c.requires.i_lt_count)

pub slice_bounds-target-count : goal.slice_bounds-target-count
slice_bounds-target-count c = omega arith

pub slice_bounds-target-start : goal.slice_bounds-target-start
slice_bounds-target-start c = omega arith

pub slice_bounds-target-end : goal.slice_bounds-target-end
slice_bounds-target-end c = omega (arith, c.requires.set_places.size, c.requires.set_places.most, c.requires.set_places.short, c.requires.i_lt_count)

pub overflow_add-i : goal.overflow_add-i
overflow_add-i c = omega (arith, c.requires.set_places.most, c.requires.i_lt_count)

pub returns-in-Ok : goal.returns-in-Ok
returns-in-Ok c =
    step-placed c.args.sheet c.args.places.now c.args.i _ c.args.buf.now
    c.target.result (Ok c.in-Ok.m) _
    c.target.ensures c.in-Ok.is

pub returns-in-Err : goal.returns-in-Err
returns-in-Err c =
    let s = step-placed c.args.sheet c.args.places.now c.args.i _ c.args.buf.now
    c.target.result (Err c.in-Err.field-0) _
    c.target.ensures c.in-Err.is in
    absurd (step-never c.args.sheet c.args.places.now c.args.count c.args.i c.requires.i_lt_count.0
    c.args.buf.now c.requires.i_lt_count.1 c.requires.passed c.in-Err.field-0 s.0)
