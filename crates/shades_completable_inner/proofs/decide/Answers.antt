-- `shades_completable_inner::decide` meets its contract. The loop: the arrays hold the groups of a pool; the last group's place falls, or the least word grows.
use Rattle.words.proofs.Needs.{rules}
use Rattle.words.proofs.Needs.{arith, sym}
use Rattle.shades_completable_inner.proofs.Testing.{test-start, test-stuck, test-bounds, test-dropped, test-pushed}
use Rattle.shades_completable_inner.proofs.Testing.{test-chained, test-under, test-over, test_on, test-longer}
use Rattle.shades_completable_inner.proofs.decide.Goals as goal

pub numbers-num-requires : goal.numbers-num-requires
numbers-num-requires c = (c.requires.completing.shades, c.requires.completing.room)

pub overflow_add-first : goal.overflow_add-first
overflow_add-first c = omega (arith, c.requires.left, c.requires.completing.shades)

pub offset_bounds-rem-b : goal.offset_bounds-rem-b
offset_bounds-rem-b c = omega (arith, c.requires.left, c.requires.completing.shades)

pub bounds-rem-b : goal.bounds-rem-b
bounds-rem-b c = c.requires.left

pub overflow_add-e : goal.overflow_add-e
overflow_add-e c = omega (arith, c.requires.completing.shades)

pub loop-e-init : goal.loop-e-init
loop-e-init c = test-start _ _ _ _ c.requires (search rules) c.numbers-num.ensures

pub returns-then-e-f : goal.returns-then-e-f
returns-then-e-f c = test-stuck c.loop-e.invariant c.if-e-f.true

pub overflow_sub-g : goal.overflow_sub-g
overflow_sub-g c = let k = test-bounds c.loop-e.invariant c.if-e-f.false in omega arith

pub bounds-num-g : goal.bounds-num-g
bounds-num-g c = let k = test-bounds c.loop-e.invariant c.if-e-f.false in omega arith

pub overflow_cast-x : goal.overflow_cast-x
overflow_cast-x c = let k = test-bounds c.loop-e.invariant c.if-e-f.false in omega arith

pub loop-e-smaller-then-x-eq0 : goal.loop-e-smaller-then-x-eq0
loop-e-smaller-then-x-eq0 c = let k = test-bounds c.loop-e.invariant c.if-e-f.false in omega arith

pub loop-e-preserved-then-x-eq0 : goal.loop-e-preserved-then-x-eq0
loop-e-preserved-then-x-eq0 c = test-dropped c.loop-e.invariant c.if-e-f.false c.if-x-eq0.true

pub overflow_sub-f : goal.overflow_sub-f
overflow_sub-f c = let k = test-bounds c.loop-e.invariant c.if-e-f.false in omega arith

pub overflow_cast-num : goal.overflow_cast-num
overflow_cast-num c = let k = test-bounds c.loop-e.invariant c.if-e-f.false in omega arith

pub bounds-num-f : goal.bounds-num-f
bounds-num-f c = let k = test-bounds c.loop-e.invariant c.if-e-f.false in omega arith

pub overflow_cast-pre : goal.overflow_cast-pre
overflow_cast-pre c = let k = test-bounds c.loop-e.invariant c.if-e-f.false in omega arith

pub bounds-pre-f : goal.bounds-pre-f
bounds-pre-f c = let k = test-bounds c.loop-e.invariant c.if-e-f.false in omega arith

pub overflow_cast-next : goal.overflow_cast-next
overflow_cast-next c = let k = test-bounds c.loop-e.invariant c.if-e-f.false in omega arith

pub bounds-next-f : goal.bounds-next-f
bounds-next-f c = let k = test-bounds c.loop-e.invariant c.if-e-f.false in omega arith

pub overflow_sub-q : goal.overflow_sub-q
overflow_sub-q c = omega (arith, c.if-x-q.true)

pub loop-e-smaller-then-x-q : goal.loop-e-smaller-then-x-q
loop-e-smaller-then-x-q c = let k = test-bounds c.loop-e.invariant c.if-e-f.false in omega arith

pub loop-e-preserved-then-x-q : goal.loop-e-preserved-then-x-q
loop-e-preserved-then-x-q c = test-pushed c.loop-e.invariant c.if-e-f.false c.if-x-eq0.false c.if-x-q.true

pub overflow_cast-num-else-x-q : goal.overflow_cast-num-else-x-q
overflow_cast-num-else-x-q c = let k = test-bounds c.loop-e.invariant c.if-e-f.false in omega arith

pub bounds-num-g-else-x-q : goal.bounds-num-g-else-x-q
bounds-num-g-else-x-q c = let k = test-bounds c.loop-e.invariant c.if-e-f.false in omega arith

pub slice_bounds-against-end : goal.slice_bounds-against-end
slice_bounds-against-end c = sym c.loop-e.invariant.slots

pub slice_bounds-against-end-else-x-q : goal.slice_bounds-against-end-else-x-q
slice_bounds-against-end-else-x-q c = sym c.loop-e.invariant.links

pub against-r-requires : goal.against-r-requires
against-r-requires c = test-chained c.loop-e.invariant c.if-e-f.false (omega (arith, c.if-x-q.false))

pub returns-then-r-eq0 : goal.returns-then-r-eq0
returns-then-r-eq0 c =
    test-under c.loop-e.invariant c.if-e-f.false (omega (arith, c.if-x-q.false)) _
    c.against-r.ensures c.if-r-eq0.true

pub returns-then-al-r : goal.returns-then-al-r
returns-then-al-r c =
    test-over c.loop-e.invariant c.if-e-f.false
    (omega (arith, c.if-x-q.false)) _ c.against-r.ensures c.if-al-r.true

pub loop-e-smaller : goal.loop-e-smaller
loop-e-smaller c =
    omega (
      arith,
      test-longer c.loop-e.invariant c.if-e-f.false
          (omega (arith, c.if-x-q.false)) _ c.against-r.ensures c.if-r-eq0.false
          (omega (arith, c.if-al-r.false)),
      c.if-al-r.false,
    )

pub loop-e-preserved : goal.loop-e-preserved
loop-e-preserved c =
    test_on c.loop-e.invariant c.if-e-f.false
    (omega (arith, c.if-x-q.false)) _ c.against-r.ensures c.if-r-eq0.false
    (omega (arith, c.if-al-r.false))
