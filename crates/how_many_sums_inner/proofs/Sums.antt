-- The sums over the divisors, and how many rings they say there are.
--     summand-none, summand-some     what d adds
--     necklaces-are                  the sum with phi, divided by n
--     minus-fits, lyndon-are         the sum where mu is 1, less that where it is -1, divided by n
use Rattle.words.proofs.Plain.{ℕ, ◌-◌, ◌*◌, ◌/◌, ◌%◌, ◌^◌, ◌≤◌, arith, ◌≡◌, sym, ap, ◌∙◌, eq-eqb, ne_eqb}
use Rattle.rings.specs.{Necklace.necklace, Necklace.lyndon, Steps.how_many}
use Rattle.how_many_number_spec.specs.Divisors.{when, divides, over_divisors}
use Rattle.how_many_laws.specs.Formulas.{necklace_sum, necklace_formula, plus_sum, minus_sum, lyndon_formula}
use Rattle.how_many_laws.proofs.Formulas.{necklace-formula, lyndon-exact, lyndon-formula}
use Rattle.how_many_sums_inner.specs.declared.Weight.{Weight}
use Rattle.how_many_sums_inner.specs.declared.Weight.TheVariants.{Phi, Plus, Minus}
use Rattle.how_many_sums_inner.specs.Weights.{Small, weight_of, powers}

pub summand-none : (w : Weight) (k n d : ℕ) → (n % d ≡ 0 → ⊥) → 0 ≡ when (divides d n) (powers w k n d)
unfolding divides
summand-none w k n d h = rw (ne_eqb (n % d) 0 h)

pub summand-some : (w : Weight) (k n d a b : ℕ) → n % d ≡ 0 → a ≡ weight_of w d → b ≡ k ^ (n / d) → a * b ≡ when (divides d n) (powers w k n d)
unfolding divides
summand-some w k n d a b h p q = rw (eq-eqb (n % d) 0 h, p, q)

module _ (k n : ℕ) (h : Small k n) where
  pub necklaces-are : (x : ℕ) → x ≡ over_divisors n (powers Phi k n) → x / n ≡ how_many necklace n k
  unfolding necklace_sum necklace_formula
  necklaces-are x p = ap (λ (y : ℕ). y / n) p ∙ sym (necklace-formula n k (omega (arith, h.sized)))

  pub minus-fits : (x y : ℕ) → x ≡ over_divisors n (powers Plus k n) → y ≡ over_divisors n (powers Minus k n) → y ≤ x
  unfolding plus_sum minus_sum
  minus-fits x y p q = omega (arith, p, q, lyndon-exact n k (omega (arith, h.sized)))

  pub lyndon-are : (x y : ℕ) → x ≡ over_divisors n (powers Plus k n) → y ≡ over_divisors n (powers Minus k n) → (x - y) / n ≡ how_many lyndon n k
  unfolding plus_sum minus_sum lyndon_formula
  lyndon-are x y p q = rw (p, q) (sym (lyndon-formula n k (omega (arith, h.sized))))
