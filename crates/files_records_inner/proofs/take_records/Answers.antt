-- `files_records_inner::take_records` meets its contract: what is done so far are records whose texts stand at the beginning of the output (Going), and each turn takes one more.
use Rattle.words.proofs.Needs.{rules}
use Rattle.words.proofs.Needs.{arith, length-take, length-drop}
use Rattle.files_records_inner.proofs.Going.{going-none, going-room, turn-size, turn_on, turn-same, turn-stop, turn-over}
use Rattle.files_records_inner.proofs.take_records.Goals as goal

pub loop-ring-init : goal.loop-ring-init
loop-ring-init c = (going-none _ _ _ _, search rules)

pub overflow_sub-block : goal.overflow_sub-block
overflow_sub-block c = omega (arith, c.loop-ring.invariant.0.inside)

pub overflow_add-place : goal.overflow_add-place
overflow_add-place c = omega (arith, c.loop-ring.invariant.0.inside, c.requires.held)

pub slice_bounds-take_one-count : goal.slice_bounds-take_one-count
slice_bounds-take_one-count c = omega (arith, c.loop-ring.invariant.0.inside)

pub slice_bounds-take_one-start : goal.slice_bounds-take_one-start
slice_bounds-take_one-start c = omega (arith, c.loop-ring.invariant.0.inside)

pub take_one-requires : goal.take_one-requires
take_one-requires c =
    let r = going-room c.args.job c.args.place c.args.block.now c.args.out.now c.loop-ring.i c.loop-ring.len c.loop-ring.out c.loop-ring.invariant.0
    c.requires.record_room_in_bounds in record
    { held = (simp (length-take, length-drop) (omega (arith, c.requires.held, c.loop-ring.invariant.0.inside)), c.loop-ring.invariant.1); record_room_in_bounds = r.1 }

pub overflow_add-i : goal.overflow_add-i
overflow_add-i c =
    let q = turn-size c.args.job c.args.place c.args.block.now c.args.out.now c.loop-ring.i c.loop-ring.len c.loop-ring.out c.loop-ring.invariant.0
    c.take_one.result _ c.take_one.ensures _ _ c.in-Ok.is in
    omega (arith, q, c.requires.held)

pub loop-ring-smaller : goal.loop-ring-smaller
loop-ring-smaller c =
    let q = turn-size c.args.job c.args.place c.args.block.now c.args.out.now c.loop-ring.i c.loop-ring.len c.loop-ring.out c.loop-ring.invariant.0
    c.take_one.result _ c.take_one.ensures _ _ c.in-Ok.is in
    omega (arith, q)

pub loop-ring-preserved : goal.loop-ring-preserved
loop-ring-preserved c = (
  turn_on c.args.job c.args.place c.args.block.now c.args.out.now c.loop-ring.i c.loop-ring.len c.loop-ring.out c.loop-ring.invariant.0 c.take_one.result _
      c.take_one.ensures _ _ c.in-Ok.is,
  search rules,
)

pub stop-requires : goal.stop-requires
stop-requires c =
    let q = turn-same c.args.job c.args.place c.args.block.now c.args.out.now c.loop-ring.i c.loop-ring.len c.loop-ring.out c.loop-ring.invariant.0
    c.take_one.result _ c.take_one.ensures _ c.in-Err.is in
    let r = going-room c.args.job c.args.place c.args.block.now c.args.out.now c.loop-ring.i c.loop-ring.len c.loop-ring.out c.loop-ring.invariant.0 c.requires.record_room_in_bounds in
    (omega (arith, c.requires.held, c.loop-ring.invariant.0.inside), rw q (omega (arith, r.1)))

pub shape_of-out-in-Err : goal.shape_of-out-in-Err
shape_of-out-in-Err c =
    omega (
      arith,
      c.out-in-Err-1.given,
      c.out-1.given,
      (going-room c.args.job c.args.place c.args.block.now c.args.out.now c.loop-ring.i c.loop-ring.len c.loop-ring.out c.loop-ring.invariant.0
          c.requires.record_room_in_bounds).0,
    )

pub returns-in-Err : goal.returns-in-Err
returns-in-Err c =
    turn-stop c.args.job c.args.place c.args.block.now c.args.out.now c.loop-ring.i c.loop-ring.len c.loop-ring.out c.loop-ring.invariant.0 c.take_one.result _ c.take_one.ensures
    c.args.last _ c.stop.result _ c.enough.result c.in-Err.is c.loop-ring-test.true c.enough.ensures c.requires.record_room_in_bounds c.stop.ensures

pub finish-requires : goal.finish-requires
finish-requires c =
    let r = going-room c.args.job c.args.place c.args.block.now c.args.out.now c.loop-ring.i c.loop-ring.len c.loop-ring.out c.loop-ring.invariant.0 c.requires.record_room_in_bounds in
    (omega (arith, c.requires.held, c.loop-ring.invariant.0.inside), omega (arith, r.1))

pub shape_of-out : goal.shape_of-out
shape_of-out c =
    omega (
      arith,
      c.out-2-1.given,
      (going-room c.args.job c.args.place c.args.block.now c.args.out.now c.loop-ring.i c.loop-ring.len c.loop-ring.out
          c.loop-ring.invariant.0 c.requires.record_room_in_bounds).0,
    )

pub returns : goal.returns
returns c =
    turn-over c.args.job c.args.place c.args.block.now c.args.out.now c.loop-ring.i c.loop-ring.len c.loop-ring.out c.loop-ring.invariant.0
    c.args.last c.finish.result _ c.enough.result c.loop-ring-test.false c.enough.ensures c.requires.record_room_in_bounds c.finish.ensures
