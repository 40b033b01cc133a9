-- `how_many_sums_inner::weigh` meets its contract.
use Rattle.words.proofs.Needs.{arith}
use Rattle.how_many_number_spec.specs.Mu.{mu_plus, mu_minus}
use Rattle.how_many_sums_inner.proofs.weigh.Goals as goal

pub returns-in-Phi : goal.returns-in-Phi
returns-in-Phi c = rw c.in-Phi.is (c.phi_of.ensures.0, omega (arith, c.phi_of.ensures.1, c.requires))

pub returns-in-Plus : goal.returns-in-Plus
unfolding mu_plus
returns-in-Plus c = rw c.in-Plus.is (c.mu_of.ensures.0, omega (arith, c.mu_of.ensures.1))

pub returns-in-Minus : goal.returns-in-Minus
unfolding mu_minus
returns-in-Minus c = rw c.in-Minus.is (c.mu_of-in-Minus.ensures.0, omega (arith, c.mu_of-in-Minus.ensures.1))
