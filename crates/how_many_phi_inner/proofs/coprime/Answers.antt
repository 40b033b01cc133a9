-- `how_many_phi_inner::coprime` meets its contract.
use Rattle.words.proofs.Needs.{ap, eqb, ℕ}
use Rattle.how_many_number_laws.proofs.Loops.{bit-from}
use Rattle.how_many_phi_inner.proofs.coprime.Goals as goal

pub returns : goal.returns
returns c = bit-from _ _ _ c.from.ensures (ap (λ (g : ℕ). eqb g 1) c.gcd_of.ensures)
