-- `how_many_mu_inner::prime_divisor` meets its contract.
use Rattle.words.proofs.Needs.{sym, ◌∙◌}
use Rattle.how_many_number_spec.specs.Divisors.{divides}
use Rattle.how_many_number_laws.proofs.Loops.{bit-from}
use Rattle.how_many_mu_inner.proofs.prime_divisor.Goals as goal
use Rattle.how_many_mu_inner.proofs.prime_divisor.Goals.{then-is_prime, else-is_prime}

pub returns : goal.returns
unfolding divides
returns c =
    bit-from _ _ _ c.from.ensures (elim c.if-is_prime.branch [
      | then-is_prime w ↦ rw (sym c.is_prime.ensures ∙ w.if-is_prime.true) w.from-is
      | else-is_prime w ↦ rw (sym c.is_prime.ensures ∙ w.if-is_prime.false) (w.from-is ∙ w.if-is_prime.false)
    ])
