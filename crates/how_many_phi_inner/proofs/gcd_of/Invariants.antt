-- `how_many_phi_inner::gcd_of` meets its contract. The loop's invariant: the greatest common divisor is not above g.
use Rattle.words.proofs.Needs.{◌≡◌}
use Rattle.words.specs.Search.{greatest}
use Rattle.how_many_number_spec.specs.Phi.{divides_both, gcd}
use Rattle.how_many_phi_inner.proofs.gcd_of.Given as goal

abbrev pub invariant-loop-g : goal.invariant-loop-g
invariant-loop-g l = gcd l.a l.b ≡ greatest l.g (divides_both l.a l.b)
