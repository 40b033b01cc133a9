-- `how_many_phi_inner::phi_of` meets its contract. The loop's invariant: x is the sum up to i.
use Rattle.words.proofs.Needs.{◌≤◌, ◌≡◌, eqb}
use Rattle.words.specs.Readings.{bit}
use Rattle.how_many_number_spec.specs.{Divisors.sum_to, Phi.gcd}
use Rattle.how_many_phi_inner.proofs.phi_of.Given as goal

abbrev pub invariant-loop-i : goal.invariant-loop-i
invariant-loop-i l = (l.x ≡ sum_to l.i (λ j. bit (eqb (gcd j l.m) 1))) × (l.x ≤ l.i)
