-- The divisor formulas are right (001, equation 1; 02, request f): for every n from 1 on and every k, with no bound on either,
--     necklace-formula    the necklaces, by definition, are as many as 001, equation 1, says
--     lyndon-formula      the Lyndon words, by definition, are as many as Moebius's sum says
-- and before them
--     weighted            a sum of weights times powers of k over the divisors of n, by the Lyndon words of each divisor
--     necklace-exact      n times the necklaces are the sum: the division leaves nothing over
--     necklace-gcd        n times the necklaces are the sum of k ^ gcd i n over the numbers 1 to n: 001, equation 1, in its second form
--     lyndon-exact        what Moebius's sum adds is what it takes away and n times the Lyndon words: nothing is cut off at 0, and the division leaves nothing over
-- k ^ d is the sum of e times the Lyndon words of e over the divisors e of d (`how_many_period_laws`, readings-grouped); weighted with phi, each Lyndon word of e comes out
-- n times, as phi adds up to the number whose divisors are taken; weighted with mu, it comes out where e is n and nowhere else.
use Rattle.words.proofs.Plain.{ℕ, ◌+◌, ◌*◌, ◌/◌, ◌^◌, ◌<◌, ◌≤◌, ◌∣◌, arith, ◌≡◌, sym, ap, ◌∙◌, eqb, ne_eqb}
use native.Mathlib.Nat.{mul_assoc, mul_comm, add-mul, zero-mul, one-mul, mul-one, div_self, dvd_refl, mul-div_cancel_left}
use Rattle.words.specs.Readings.{bit}
use Rattle.words.proofs.Split.{passes, fails, test}
use Rattle.rings.specs.{Necklace.necklace, Necklace.lyndon, Steps.how_many}
use Rattle.how_many_number_spec.specs.Divisors.{when, sum_to, divides, over_divisors}
use Rattle.how_many_number_spec.specs.{Phi.gcd, Phi.phi, Mu.mu_plus, Mu.mu_minus}
use Rattle.how_many_number_laws.proofs.{Sums.sum_one, Phi.gcd-sum, Phi.phi-total, Mu.mu-total}
use Rattle.how_many_number_laws.proofs.Divide.{divides-of, of-divides, quotient, quotient-pos, over-cong, over-scale, over_add, other_way, convolve}
use Rattle.how_many_laws.specs.Formulas.{necklace_sum, necklace_formula, plus_sum, minus_sum, lyndon_formula}
use Rattle.how_many_period_laws.proofs.Grouped.{necklaces-grouped, readings-grouped}

module _ (n k : ℕ) (z : 0 < n) where
  -- d times the Lyndon words of d
  sized : ℕ → ℕ
  sized d = d * how_many lyndon d k

  -- a sum of powers with weights, by Lyndon words
  weighted : (g : ℕ → ℕ) → over_divisors n (λ d. g (n / d) * k ^ d) ≡ over_divisors n (λ e. over_divisors (n / e) g * sized e)
  unfolding sized
  weighted g =
      over-cong n (λ d. g (n / d) * k ^ d) (λ d. g (n / d) * over_divisors d sized) (λ d p l q. ap (λ (x : ℕ). g (n / d) * x) (readings-grouped d k p))
      ∙ convolve n g sized z

  -- the same with n / d and d changed over
  necklace-sum : n * how_many necklace n k ≡ over_divisors n (λ d. phi (n / d) * k ^ d)
  unfolding sized
  necklace-sum =
      sym (weighted phi ∙ over-cong n (λ e. over_divisors (n / e) phi * sized e) (λ e. n * how_many lyndon e k) leaves ∙ over-scale n n
      (λ e. how_many lyndon e k) ∙ ap (λ (x : ℕ). n * x) (sym (necklaces-grouped n k z)))
    where
      leaves : (e : ℕ) → 0 < e → e ≤ n → e ∣ n → over_divisors (n / e) phi * sized e ≡ n * how_many lyndon e k
      leaves e p l q =
          ap (λ (x : ℕ). x * sized e) (phi-total (n / e) (quotient-pos e n z q))
          ∙ sym (mul_assoc (n / e) e (how_many lyndon e k))
          ∙ ap (λ (x : ℕ). x * how_many lyndon e k) (mul_comm (n / e) e ∙ quotient e n q)

  -- n times the necklaces are the sum
  pub necklace-exact : n * how_many necklace n k ≡ necklace_sum n k
  unfolding necklace_sum
  necklace-exact = necklace-sum ∙ sym (other_way n phi (λ d. k ^ d) z)

  -- 001, equation 1, the second sum
  pub necklace-gcd : n * how_many necklace n k ≡ sum_to n (λ i. k ^ gcd i n)
  necklace-gcd = necklace-sum ∙ sym (gcd-sum n (λ d. k ^ d) z)

  -- the necklaces are as many as 001, equation 1, says
  pub necklace-formula : how_many necklace n k ≡ necklace_formula n k
  unfolding necklace_formula
  necklace-formula = sym (mul-div_cancel_left (how_many necklace n k) z) ∙ ap (λ (x : ℕ). x / n) necklace-exact

  -- of the divisors e of n, only n leaves 1
  last : over_divisors n (λ e. bit (eqb (n / e) 1) * sized e) ≡ n * how_many lyndon n k
  unfolding over_divisors sized
  last =
      sum_one n (λ e. when (divides e n) (bit (eqb (n / e) 1) * sized e)) n z (omega arith) apart
      ∙ rw (divides-of n n (dvd_refl n), div_self z) (one-mul (n * how_many lyndon n k))
    where
      apart : (e : ℕ) → 0 < e → e ≤ n → (n ≡ e → ⊥) → when (divides e n) (bit (eqb (n / e) 1) * sized e) ≡ 0
      apart e p l q =
          elim (test (divides e n)) [
            | fails h ↦ rw h
            | passes h ↦ rw (h, ne_eqb (n / e) 1 (λ t. q (sym (quotient e n (of-divides e n h)) ∙ ap (λ (x : ℕ). e * x) t ∙ mul-one e))) (zero-mul (sized e))
          ]

  lyndon-sum : over_divisors n (λ d. bit (mu_plus (n / d)) * k ^ d) ≡ over_divisors n (λ d. bit (mu_minus (n / d)) * k ^ d) + n * how_many lyndon n k
  lyndon-sum =
      weighted (λ c. bit (mu_plus c))
      ∙ over-cong n (λ e. over_divisors (n / e) (λ c. bit (mu_plus c)) * sized e) (λ e. over_divisors (n / e) (λ c. bit (mu_minus c)) * sized e + bit (eqb (n / e) 1) * sized e) leaves
      ∙ over_add n (λ e. over_divisors (n / e) (λ c. bit (mu_minus c)) * sized e) (λ e. bit (eqb (n / e) 1) * sized e)
      ∙ omega (arith, weighted (λ c. bit (mu_minus c)), last)
    where
      leaves : (e : ℕ) → 0 < e → e ≤ n → e ∣ n → over_divisors (n / e) (λ c. bit (mu_plus c)) * sized e ≡ over_divisors (n / e) (λ c. bit (mu_minus c)) * sized e + bit (eqb (n / e) 1) * sized e
      leaves e p l q =
          ap (λ (x : ℕ). x * sized e) (mu-total (n / e) (quotient-pos e n z q))
          ∙ add-mul (over_divisors (n / e) (λ c. bit (mu_minus c))) (bit (eqb (n / e) 1)) (sized e)

  -- what Moebius's sum adds is what it takes away and n times the Lyndon words
  pub lyndon-exact : plus_sum n k ≡ minus_sum n k + n * how_many lyndon n k
  unfolding plus_sum minus_sum
  lyndon-exact =
      other_way n (λ d. bit (mu_plus d)) (λ d. k ^ d) z
      ∙ lyndon-sum
      ∙ ap (λ (x : ℕ). x + n * how_many lyndon n k) (sym (other_way n (λ d. bit (mu_minus d)) (λ d. k ^ d) z))

  -- the Lyndon words are as many as Moebius's sum says
  pub lyndon-formula : how_many lyndon n k ≡ lyndon_formula n k
  unfolding lyndon_formula
  lyndon-formula = sym (mul-div_cancel_left (how_many lyndon n k) z) ∙ ap (λ (x : ℕ). x / n) (omega (arith, lyndon-exact))
