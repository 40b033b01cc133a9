-- `listing_rows_inner::fill_rows` meets its contract. The loop's invariant, `Along`: what is placed so far is the beginning of the page, and the rings and moves are counted
-- right.
use Rattle.words.proofs.Needs.{rules}
use Rattle.words.proofs.Needs.{arith, ◌≡◌, refl, length, length-take}
use Rattle.listing_rows_inner.proofs.Loop.{along-start, along-fits, along-size, along-ready, along-rings, along-on}
use Rattle.listing_rows_inner.proofs.Loop.{came, came-size, came-moves, line-room, line-further, stops, keeps-length, says-full, says-ended}
use Rattle.listing_rows_inner.proofs.fill_rows.Goals as goal

pub loop-at-init : goal.loop-at-init
loop-at-init c =
    let l : length c.args.s.ring ≡ 64 = search rules in
    (along-start c.args.s c.args.buf.now c.args.from c.requires.good_state l c.requires.from_in_bounds, refl)

pub slice_bounds-ring-end : goal.slice_bounds-ring-end
slice_bounds-ring-end c = omega (arith, along-fits c.loop-at.invariant.0, along-size c.loop-at.invariant.0)

pub slice_bounds-go_on-end : goal.slice_bounds-go_on-end
slice_bounds-go_on-end c = simp length-take (omega (arith, along-fits c.loop-at.invariant.0, along-size c.loop-at.invariant.0))

pub go_on-went-requires : goal.go_on-went-requires
go_on-went-requires c = along-ready c.loop-at.invariant.0

pub slice_bounds-ring-end-in-loop-at : goal.slice_bounds-ring-end-in-loop-at
slice_bounds-ring-end-in-loop-at c =
    let q = came c.loop-at.invariant.0 _ c.in-Moved.m c.go_on-went.result.period (rw c.in-Moved.is at c.go_on-went.ensures) in
    omega (arith, along-fits c.loop-at.invariant.0, came-size c.loop-at.invariant.0 _ c.in-Moved.m c.go_on-went.result.period q)

pub slice_bounds-place_ring-end : goal.slice_bounds-place_ring-end
slice_bounds-place_ring-end c =
    let q = came c.loop-at.invariant.0 _ c.in-Moved.m c.go_on-went.result.period (rw c.in-Moved.is at c.go_on-went.ensures) in
    simp length-take (omega (arith, along-fits c.loop-at.invariant.0, came-size c.loop-at.invariant.0 _ c.in-Moved.m c.go_on-went.result.period q))

-- there is room for the line of any two numbers; that it is the ring's own line is asked in `loop-again`
pub place_ring-at-requires : goal.place_ring-at-requires
place_ring-at-requires c =
    let q = came c.loop-at.invariant.0 _ c.in-Moved.m c.go_on-went.result.period (rw c.in-Moved.is at c.go_on-went.ensures) in
    line-room _ _ _ _ _ (omega (arith, c.loop-at-test.true)) (simp length-take (omega (arith, along-fits c.loop-at.invariant.0)))
    (omega (arith, came-moves c.loop-at.invariant.0 _ c.in-Moved.m c.go_on-went.result.period q)) (search rules)

pub overflow_add-rings : goal.overflow_add-rings
overflow_add-rings c = omega (arith, along-rings c.loop-at.invariant.0)

pub overflow_add-moves : goal.overflow_add-moves
overflow_add-moves c =
    let q = came c.loop-at.invariant.0 _ c.in-Moved.m c.go_on-went.result.period (rw c.in-Moved.is at c.go_on-went.ensures) in
    omega (arith, came-moves c.loop-at.invariant.0 _ c.in-Moved.m c.go_on-went.result.period q)

pub loop-at-smaller : goal.loop-at-smaller
loop-at-smaller c =
    omega (arith, c.loop-at-test.true, line-further _ _ _ _ _ _ _ c.place_ring-at.ensures)

pub loop-at-preserved : goal.loop-at-preserved
loop-at-preserved c =
    let q = came c.loop-at.invariant.0 _ c.in-Moved.m c.go_on-went.result.period (rw c.in-Moved.is at c.go_on-went.ensures) in
    (along-on c.loop-at.invariant.0 _ c.in-Moved.m c.go_on-went.result.period q _ _ (omega (arith, c.loop-at-test.true)) c.place_ring-at.ensures, c.loop-at.invariant.1)

pub shape_of-buf-after-loop-at : goal.shape_of-buf-after-loop-at
shape_of-buf-after-loop-at c =
    keeps-length c.args.s c.args.buf.now c.args.from c.loop-at.ring c.loop-at.rings c.loop-at.moves c.loop-at.at c.loop-at.buf c.loop-at.invariant.0

pub returns-after-loop-at : goal.returns-after-loop-at
returns-after-loop-at c =
    says-full c.args.s c.args.buf.now c.args.from c.loop-at.ring c.loop-at.rings c.loop-at.moves c.loop-at.at c.loop-at.buf c.loop-at.invariant.0 c.loop-at.ring
    refl c.loop-at.more c.loop-at.invariant.1 (omega (arith, c.loop-at-test.false))

pub shape_of-buf-in_default : goal.shape_of-buf-in_default
shape_of-buf-in_default c =
    keeps-length c.args.s c.args.buf.now c.args.from c.loop-at.ring c.loop-at.rings c.loop-at.moves c.loop-at.at c.loop-at.buf c.loop-at.invariant.0

pub returns-in_default : goal.returns-in_default
returns-in_default c =
    let d = stops c.loop-at.invariant.0 _ c.go_on-went.result.outcome c.go_on-went.result.period c.in_default.not-Moved c.go_on-went.ensures in
    says-ended c.args.s c.args.buf.now c.args.from c.loop-at.ring c.loop-at.rings c.loop-at.moves c.loop-at.at c.loop-at.buf c.loop-at.invariant.0 _ d.1 _ refl
    (omega (arith, c.loop-at-test.true)) d.0
