-- `bracelet_settle_inner::settle` meets its contract. The loop's invariant, `Settling`: the least shade that makes a bracelet is from low to high. Its measure, the
-- tries left and `halves`, bounds the tests: by seven where there are at most 16 shades (`halves-shades`).
use Rattle.words.proofs.Needs.{rules}
use Rattle.words.proofs.Needs.{◌+◌, ◌-◌, ◌<◌, arith, ◌∙◌, sym, length-set}
use Rattle.bracelet_settle_inner.proofs.Halves.{tries-less}
use Rattle.bracelet_settle_inner.proofs.Settling.{settling-start, settling-down, settling-up, settling-end}
use Rattle.bracelet_settle_inner.proofs.settle.Goals as goal

pub loop-low-init : goal.loop-low-init
loop-low-init c = settling-start c.args.s.now c.args.m c.args.least c.args.top c.requires

pub is_bracelet-requires : goal.is_bracelet-requires
is_bracelet-requires c =
    simp length-set (omega (arith, c.loop-low.invariant.long, c.requires.inside))

pub loop-low-smaller-then-is_bracelet : goal.loop-low-smaller-then-is_bracelet
loop-low-smaller-then-is_bracelet c =
    let b : c.loop-low.high < 256 = search rules in
    tries-less (c.loop-low.high - c.loop-low.low) (c.between-shade.result - c.loop-low.low) c.loop-low.tries c.saturating_sub-tries.result
    (omega (arith, c.loop-low-test.true)) (omega arith) (omega (arith, c.between-shade.ensures.up, c.between-shade.ensures.down))
    (λ z. omega (arith, c.between-shade.ensures.middle z)) c.saturating_sub-tries.ensures

pub loop-low-preserved-then-is_bracelet : goal.loop-low-preserved-then-is_bracelet
loop-low-preserved-then-is_bracelet c =
    settling-down c.args.s.now c.args.m c.args.least c.args.top c.requires c.loop-low.s c.loop-low.low c.loop-low.high
    c.loop-low.invariant c.between-shade.result c.between-shade.ensures.up
    c.between-shade.ensures.down (sym c.is_bracelet.ensures ∙ c.if-is_bracelet.true)

pub overflow_add-low : goal.overflow_add-low
overflow_add-low c =
    let b : c.loop-low.high < 256 = search rules in
    omega (arith, c.between-shade.ensures.down)

pub loop-low-smaller : goal.loop-low-smaller
loop-low-smaller c =
    let b : c.loop-low.high < 256 = search rules in
    tries-less (c.loop-low.high - c.loop-low.low) (c.loop-low.high - (c.between-shade.result + 1)) c.loop-low.tries c.saturating_sub-tries.result
    (omega (arith, c.loop-low-test.true)) (omega arith) (omega (arith, c.between-shade.ensures.up, c.between-shade.ensures.down))
    (λ z. omega (arith, c.between-shade.ensures.middle z)) c.saturating_sub-tries.ensures

pub loop-low-preserved : goal.loop-low-preserved
loop-low-preserved c =
    settling-up c.args.s.now c.args.m c.args.least c.args.top c.requires c.loop-low.s c.loop-low.low c.loop-low.high
    c.loop-low.invariant c.between-shade.result c.between-shade.ensures.up
    c.between-shade.ensures.down (sym c.is_bracelet.ensures ∙ c.if-is_bracelet.false)

pub returns : goal.returns
returns c =
    settling-end c.args.s.now c.args.m c.args.least c.args.top c.requires c.loop-low.s c.loop-low.low c.loop-low.high c.loop-low.invariant c.loop-low-test.false
