-- `how_many_mu_inner::mu_of` meets its contract.
use Rattle.words.proofs.Needs.{sym, ◌∙◌}
use Rattle.how_many_number_laws.proofs.Loops.{bit-from}
use Rattle.how_many_mu_inner.proofs.mu_of.Goals as goal
use Rattle.how_many_mu_inner.proofs.mu_of.Goals.{then-is_square_free, else-is_square_free}

pub returns : goal.returns
returns c =
    bit-from _ _ _ c.from.ensures (elim c.if-is_square_free.branch [
      | then-is_square_free w ↦ rw (sym c.is_square_free.ensures ∙ w.if-is_square_free.true) (rw w.count_primes.ensures at w.from-is)
      | else-is_square_free w ↦ rw (sym c.is_square_free.ensures ∙ w.if-is_square_free.false) (w.from-is ∙ w.if-is_square_free.false)
    ])
