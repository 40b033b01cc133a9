-- `shades_lift_inner::left_from` meets its contract. The loop: no shade from b up to x is left.
use Rattle.words.proofs.Needs.{◌-◌, arith}
use Rattle.shades_lift_inner.proofs.Barring.{left-start, left-more, left_end}
use Rattle.shades_lift_inner.proofs.left_from.Goals as goal

pub loop-x-init : goal.loop-x-init
loop-x-init c = left-start _ _ _ c.requires.0

pub bounds-rem-x : goal.bounds-rem-x
bounds-rem-x c = omega (arith, c.loop-x-test.true, c.requires.1)

pub returns-then-rem-x-ne0 : goal.returns-then-rem-x-ne0
returns-then-rem-x-ne0 c = left_end _ _ _ _ c.loop-x.invariant (λ h e. c.if-rem-x-ne0.true e)

pub loop-x-preserved : goal.loop-x-preserved
loop-x-preserved c = left-more _ _ _ _ c.loop-x.invariant c.loop-x-test.true c.if-rem-x-ne0.false

pub returns : goal.returns
returns c = left_end _ _ _ _ c.loop-x.invariant (λ h. absurd (omega (arith, c.loop-x-test.false)))
