-- `desk_floats_inner::write_floats` meets its contract.
use Rattle.words.proofs.Needs.{arith, refl, ap, ◌∙◌, length-set}
use lib.Ieee.{binary32, of_bits}
use Rattle.desk_floats_inner.proofs.Patterns.{floats-more}
use Rattle.desk_floats_inner.proofs.write_floats.Goals as goal

pub loop-i-init : goal.loop-i-init
loop-i-init c = (refl, λ j h. absurd (omega arith))

pub loop-i-preserved : goal.loop-i-preserved
loop-i-preserved c = (
  simp length-set c.loop-i.invariant.0,
  floats-more c.args.s.now c.loop-i.i c.loop-i.out
      c.of_pattern.result c.loop-i.invariant.1 (omega (arith, c.requires.n_in_bounds_2, c.loop-i.invariant.0))
      (c.of_pattern.ensures ∙ ap (of_bits binary32) c.pattern_at.ensures),
)
