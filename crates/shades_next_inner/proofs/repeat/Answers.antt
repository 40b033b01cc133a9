-- `shades_next_inner::repeat` meets its contract. The loop: the first m sectors repeat the first p.
use Rattle.words.proofs.Needs.{◌-◌, arith}
use Rattle.shades_next_inner.proofs.Repeating.{repeat-start, repeat-more, repeat-end}
use Rattle.shades_next_inner.proofs.repeat.Goals as goal

pub loop-m-init : goal.loop-m-init
loop-m-init c = repeat-start _ _ c.requires

pub overflow_sub-s : goal.overflow_sub-s
overflow_sub-s c = c.loop-m.invariant.run.fits

pub bounds-s-m : goal.bounds-s-m
bounds-s-m c = omega (arith, c.loop-m.invariant.run.pos)

pub loop-m-smaller : goal.loop-m-smaller
loop-m-smaller c = omega (arith, c.loop-m.invariant.long)

pub loop-m-preserved : goal.loop-m-preserved
loop-m-preserved c = repeat-more _ _ _ _ c.loop-m.invariant c.loop-m-test.true

pub shape_of-s : goal.shape_of-s
shape_of-s c = c.loop-m.invariant.long

pub returns : goal.returns
returns c = repeat-end _ _ _ _ c.loop-m.invariant c.loop-m-test.false
