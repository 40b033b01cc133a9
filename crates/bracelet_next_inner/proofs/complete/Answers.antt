-- `bracelet_next_inner::complete` meets its contract. The loop's invariant, `Leading`: the first i sectors lead on as the first m did.
use Rattle.words.proofs.Needs.{rules}
use Rattle.words.proofs.Needs.{◌-◌, arith, refl}
use Rattle.bracelet_next_inner.proofs.Lifting.{leading-start, leading-settles, leading-on, leading_end}
use Rattle.bracelet_next_inner.proofs.complete.Goals as goal

pub loop-i-init : goal.loop-i-init
loop-i-init c = leading-start c.args.k c.args.s.now c.args.m c.requires.2

pub settle-requires : goal.settle-requires
settle-requires c =
    leading-settles c.args.k c.args.s.now c.args.m c.loop-i.s c.loop-i.i (c.args.k - 1) c.loop-i.invariant
    (omega (arith, c.loop-i.invariant.long, c.loop-i-test.true)) refl _ (omega (arith, c.requires.0))

pub loop-i-preserved : goal.loop-i-preserved
loop-i-preserved c =
    leading-on c.args.k c.args.s.now c.args.m c.loop-i.s c.loop-i.i (c.args.k - 1) c.loop-i.invariant
    (omega (arith, c.loop-i.invariant.long, c.loop-i-test.true)) refl _ (omega arith) _ (search rules) c.settle.ensures

pub returns : goal.returns
returns c =
    leading_end c.args.k c.args.s.now c.args.m c.loop-i.s c.loop-i.i c.loop-i.invariant (omega (arith, c.loop-i.invariant.long, c.loop-i-test.false))
