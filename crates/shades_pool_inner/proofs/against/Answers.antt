-- `shades_pool_inner::against` meets its contract. The loop: the first a letters of al and the word of node g are the first c and the word of node i.
use Rattle.words.proofs.Needs.{arith, sym, refl, length-take-le}
use Rattle.shades_pool_inner.proofs.Chains.{follow-start, follow-whole, follow-under, follow-over, follow-on, letter-under, letter-over, letter-same}
use Rattle.shades_pool_inner.proofs.against.Goals as goal

pub loop-i-init : goal.loop-i-init
loop-i-init c = follow-start _ _ _ _ _ _ c.requires

pub overflow_cast-p : goal.overflow_cast-p
overflow_cast-p c = omega (arith, c.shared_slice_known-in-loop-i-1.given c.loop-i.i)

pub slice_bounds-agree-end : goal.slice_bounds-agree-end
slice_bounds-agree-end c =
    sym (length-take-le _ _ (c.requires.spelled.short c.loop-i.i
    c.loop-i.invariant.from c.loop-i-test.true))

pub returns-then-d-al : goal.returns-then-d-al
returns-then-d-al c =
    follow-whole c.args.al.now c.args.pre.now c.args.next.now c.args.first c.args.g c.args.a c.loop-i.i c.loop-i.c c.loop-i.invariant _ refl
    (c.requires.spelled.short c.loop-i.i c.loop-i.invariant.from
    c.loop-i-test.true)
    c.loop-i-test.true _ c.agree-d.ensures c.if-d-al.true

pub returns-then-al-d : goal.returns-then-al-d
returns-then-al-d c =
    follow-under c.args.al.now c.args.pre.now c.args.next.now c.args.first c.args.g c.args.a c.loop-i.i c.loop-i.c c.loop-i.invariant _ refl
    (c.requires.spelled.short c.loop-i.i c.loop-i.invariant.from c.loop-i-test.true) c.loop-i-test.true _
    c.agree-d.ensures c.if-d-al.false c.if-d-p.true
    c.if-al-d.true

pub returns-then-d-p : goal.returns-then-d-p
returns-then-d-p c =
    follow-over c.args.al.now c.args.pre.now c.args.next.now c.args.first c.args.g c.args.a c.loop-i.i c.loop-i.c c.loop-i.invariant _ refl
    (c.requires.spelled.short c.loop-i.i c.loop-i.invariant.from c.loop-i-test.true) c.loop-i-test.true _
    c.agree-d.ensures c.if-d-al.false c.if-d-p.true
    (λ k. omega (arith, c.if-al-d.false))

pub overflow_cast-i : goal.overflow_cast-i
overflow_cast-i c = omega (arith, c.shared_slice_known-in-loop-i-2-1.given c.loop-i.i)

pub loop-i-smaller : goal.loop-i-smaller
loop-i-smaller c =
    omega (arith, c.requires.spelled.onward c.loop-i.i c.loop-i.invariant.from c.loop-i-test.true, c.loop-i.invariant.known)

pub loop-i-preserved : goal.loop-i-preserved
loop-i-preserved c =
    follow-on c.args.al.now c.args.pre.now c.args.next.now c.args.first c.args.g c.args.a c.loop-i.i c.loop-i.c c.loop-i.invariant _ refl
    (c.requires.spelled.short c.loop-i.i c.loop-i.invariant.from c.loop-i-test.true)
    c.loop-i-test.true _ c.agree-d.ensures
    c.if-d-al.false (λ k. omega (arith, c.if-d-p.false)) c.requires.word c.requires.spelled

pub overflow_sub-x : goal.overflow_sub-x
overflow_sub-x c = omega (arith, c.loop-i-test.false, c.requires.low)

pub overflow_cast-y : goal.overflow_cast-y
overflow_cast-y c = omega (arith, c.shared_slice_known-4-1.given c.loop-i.c)

pub returns-then-x-y : goal.returns-then-x-y
returns-then-x-y c =
    letter-under c.args.al.now c.args.pre.now c.args.next.now c.args.first c.args.g c.args.a c.loop-i.i c.loop-i.c c.loop-i.invariant
    (omega (arith, c.loop-i-test.false)) c.if-x-y.true

pub returns-then-y-x : goal.returns-then-y-x
returns-then-y-x c =
    letter-over c.args.al.now c.args.pre.now c.args.next.now c.args.first c.args.g c.args.a c.loop-i.i c.loop-i.c c.loop-i.invariant
    (omega (arith, c.loop-i-test.false)) c.if-y-x.true

pub returns : goal.returns
returns c =
    letter-same c.args.al.now c.args.pre.now c.args.next.now c.args.first c.args.g c.args.a c.loop-i.i c.loop-i.c c.loop-i.invariant
    (omega (arith, c.loop-i-test.false)) (omega (arith, c.if-y-x.false, c.if-x-y.false))
