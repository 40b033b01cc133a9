-- `how_many_mu_inner::is_square_free` meets its contract. The loop's invariant: no square of a number from 2 on and below d divides m.
use Rattle.words.proofs.Needs.{◌*◌, ◌%◌, ◌≡◌, true, eqb}
use Rattle.how_many_number_laws.proofs.Loops.{trials}
use Rattle.how_many_mu_inner.proofs.is_square_free.Given as goal

abbrev pub invariant-loop-d : goal.invariant-loop-d
invariant-loop-d l = trials (λ j. eqb (l.m % (j * j)) 0) l.d ≡ true
