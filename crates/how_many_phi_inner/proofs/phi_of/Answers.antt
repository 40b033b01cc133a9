-- `how_many_phi_inner::phi_of` meets its contract. The loop's invariant: x is the sum up to i.
use Rattle.words.proofs.Needs.{arith, eqb}
use Rattle.words.specs.Readings.{bit}
use Rattle.how_many_number_spec.specs.{Phi.gcd, Phi.phi}
use Rattle.how_many_number_laws.proofs.Loops.{sum-start, sum-on, sum-end}
use Rattle.how_many_phi_inner.proofs.phi_of.Goals as goal

pub loop-i-init : goal.loop-i-init
loop-i-init c = (sum-start (λ j. bit (eqb (gcd j c.args.m) 1)), omega arith)

pub overflow_add-x : goal.overflow_add-x
overflow_add-x c = omega (arith, c.coprime-x.ensures.1)

pub loop-i-preserved : goal.loop-i-preserved
loop-i-preserved c = (
  sum-on (λ j. bit (eqb (gcd j c.args.m) 1)) c.loop-i.x c.loop-i.i c.coprime-x.result
      c.loop-i.invariant.0 c.coprime-x.ensures.0,
  omega (arith, c.coprime-x.ensures.1),
)

pub returns : goal.returns
unfolding phi
returns c = (sum-end (λ j. bit (eqb (gcd j c.args.m) 1)) c.loop-i.x _ c.args.m (omega arith) (omega arith) c.loop-i.invariant.0, omega arith)
