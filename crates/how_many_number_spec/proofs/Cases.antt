-- Values of the definitions, computed: phi and mu from 1 to 30, and the greatest common divisors of 1 to 12 with 12.
use Rattle.words.proofs.Plain.{suc, ◌+◌, ◌*◌, ◌≡◌, refl, [], ◌∷◌}
use Rattle.words.specs.{Search.tab, Readings.bit}
use Rattle.how_many_number_spec.specs.{Phi.gcd, Phi.phi, Mu.mu_plus, Mu.mu_minus, Open.open-numbers}

pub gcds : tab 12 (λ i. gcd (suc i) 12) ≡ (1 ∷ 2 ∷ 3 ∷ 4 ∷ 1 ∷ 6 ∷ 1 ∷ 4 ∷ 3 ∷ 2 ∷ 1 ∷ 12 ∷ [])
unfolding open-numbers
gcds = refl

pub phis : tab 30 (λ i. phi (suc i)) ≡ (1 ∷ 1 ∷ 2 ∷ 2 ∷ 4 ∷ 2 ∷ 6 ∷ 4 ∷ 6 ∷ 4 ∷ 10 ∷ 4 ∷ 12 ∷ 6 ∷ 8 ∷ 8 ∷ 16 ∷ 6 ∷ 18 ∷ 8 ∷ 12 ∷ 10 ∷ 22 ∷ 8 ∷ 20 ∷ 12 ∷ 18 ∷ 12
    ∷ 28 ∷ 8 ∷ [])
unfolding open-numbers
phis = refl

-- 1 where mu is 1, 2 where it is -1
pub mus : tab 30 (λ i. bit (mu_plus (suc i)) + 2 * bit (mu_minus (suc i))) ≡
    (1 ∷ 2 ∷ 2 ∷ 0 ∷ 2 ∷ 1 ∷ 2 ∷ 0 ∷ 0 ∷ 1 ∷ 2 ∷ 0 ∷ 2 ∷ 1 ∷ 1 ∷ 0 ∷ 2 ∷ 0 ∷ 2 ∷ 0 ∷ 1 ∷ 1 ∷ 2 ∷ 0 ∷ 0 ∷ 1 ∷ 0 ∷ 0 ∷ 2 ∷ 2 ∷ [])
unfolding open-numbers
mus = refl
