-- `bracelet_test_inner::not_above_mirror` meets its contract. The loop's invariant, `Facing`: the turns passed are not below, and this one matches so far. Its
-- measure bounds the looks by 2 n.
use Rattle.words.proofs.Needs.{◌-◌, arith, sym}
use Rattle.bracelet_test_inner.proofs.Facing.{facing-start, facing-more, facing-skip, facing-above, facing-whole, facing-end}
use Rattle.bracelet_test_inner.proofs.not_above_mirror.Goals as goal

pub loop-i-init : goal.loop-i-init
loop-i-init c = facing-start c.args.s.now c.requires.0 c.requires.1

pub returns-then-j-n : goal.returns-then-j-n
returns-then-j-n c =
    sym (facing-whole c.args.s.now c.requires.0 c.requires.1 c.loop-i.i c.loop-i.j c.loop-i.invariant c.loop-i-test.true (omega (arith, c.if-j-n.true)))

pub overflow_sub-p-in-loop-i : goal.overflow_sub-p-in-loop-i
overflow_sub-p-in-loop-i c = omega (arith, c.around.ensures.inside)

pub bounds-s-p : goal.bounds-s-p
bounds-s-p c = omega (arith, c.around.ensures.inside)

pub returns-then-there-here : goal.returns-then-there-here
returns-then-there-here c =
    sym
    (facing-above c.args.s.now c.requires.0 c.requires.1 c.loop-i.i c.loop-i.j c.loop-i.invariant c.loop-i-test.true
    (omega (arith, c.loop-i.invariant.fits, c.if-j-n.false)) c.around.result c.around.ensures c.if-there-here.true)

pub loop-i-preserved-then-there-here-2 : goal.loop-i-preserved-then-there-here-2
loop-i-preserved-then-there-here-2 c =
    facing-more c.args.s.now c.requires.0 c.requires.1 c.loop-i.i c.loop-i.j c.loop-i.invariant c.loop-i-test.true
    (omega (arith, c.loop-i.invariant.fits, c.if-j-n.false)) c.around.result c.around.ensures c.if-there-here-2.true

pub loop-i-preserved : goal.loop-i-preserved
loop-i-preserved c =
    facing-skip c.args.s.now c.requires.0 c.requires.1 c.loop-i.i c.loop-i.j c.loop-i.invariant c.loop-i-test.true
    (omega (arith, c.loop-i.invariant.fits, c.if-j-n.false)) c.around.result c.around.ensures
    (omega (arith, c.if-there-here.false, c.if-there-here-2.false))

pub returns : goal.returns
returns c =
    sym (facing-end c.args.s.now c.requires.0 c.requires.1 c.loop-i.i c.loop-i.j c.loop-i.invariant c.loop-i-test.false)
