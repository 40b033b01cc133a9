-- `how_many_mu_inner::is_prime` meets its contract. The loop's invariant: no number from 2 on and below d divides p.
use Rattle.words.proofs.Needs.{◌%◌, ◌≡◌, true, eqb}
use Rattle.how_many_number_laws.proofs.Loops.{trials}
use Rattle.how_many_mu_inner.proofs.is_prime.Given as goal

abbrev pub invariant-loop-d : goal.invariant-loop-d
invariant-loop-d l = trials (λ j. eqb (l.p % j) 0) l.d ≡ true
