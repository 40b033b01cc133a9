-- phi (specs/Phi).
--     gcd-class    as many of the numbers 1 to n have the greatest common divisor d with n as phi (n / d) says
--     gcd-sum      so a sum over the numbers 1 to n of a value of their greatest common divisor with n is a sum over the divisors of n
--     phi-total    the sum of phi over the divisors of n is n
use Rattle.words.proofs.Plain.{ℕ, ◌*◌, ◌/◌, ◌<◌, ◌≤◌, ◌∣◌, ◌≡◌, refl, sym, ap, subst, ◌∙◌, false, eqb, eq-eqb, ne_eqb, eqb-true}
use native.Mathlib.Nat.{mul-zero, mul-one, mul_comm, eq_of_mul-eq-mul_left}
use Rattle.words.specs.Readings.{bit}
use Rattle.words.proofs.Split.{passes, fails, test, agree}
use Rattle.how_many_number_spec.specs.Divisors.{when, sum_to, divides, over_divisors}
use Rattle.how_many_number_spec.specs.Phi.{gcd, phi}
use Rattle.how_many_number_laws.proofs.Sums.{sum-cong, sum-zero, sum_one, sum-const, sum-scale, sum-swap}
use Rattle.how_many_number_laws.proofs.Divide.{of-divides, not-divides, quotient, quotient-pos, sum-multiples, over-cong, reindex}
use Rattle.how_many_number_laws.proofs.Gcd.{gcd-common, gcd-pos, gcd-le, gcd-scale}

-- as many of the numbers 1 to n have the greatest common divisor d with n = d m as phi m says
pub gcd-class : (d m n : ℕ) → 0 < d → 0 < m → 0 < n → d * m ≡ n → sum_to n (λ i. bit (eqb (gcd i n) d)) ≡ phi m
unfolding phi
gcd-class d m n z p pos e =
    ap (λ (x : ℕ). sum_to x (λ i. bit (eqb (gcd i n) d))) (sym e)
    ∙ sum-multiples d m (λ i. bit (eqb (gcd i n) d)) z apart
    ∙ sum-cong m (λ j. bit (eqb (gcd (d * j) n) d)) (λ j. bit (eqb (gcd j m) 1)) (λ j a b. ap bit (at j a))
  where
    apart : (i : ℕ) → 0 < i → i ≤ d * m → divides d i ≡ false → bit (eqb (gcd i n) d) ≡ 0
    apart i a b q = rw (ne_eqb (gcd i n) d (λ y. not-divides d i q (subst (λ (x : ℕ). x ∣ i) y (gcd-common i n a pos).left)))

    at : (j : ℕ) → 0 < j → eqb (gcd (d * j) n) d ≡ eqb (gcd j m) 1
    at j a =
        let s : gcd (d * j) n ≡ d * gcd j m = ap (gcd (d * j)) (sym e) ∙ gcd-scale j m a p d z in
        rw s (agree (eqb (d * gcd j m) d) (eqb (gcd j m) 1) (λ h. eq-eqb (gcd j m) 1
        (eq_of_mul-eq-mul_left d z (gcd j m) 1 (eqb-true (d * gcd j m) d h ∙ sym (mul-one d))))
        (λ h. eq-eqb (d * gcd j m) d (ap (λ (x : ℕ). d * x) (eqb-true (gcd j m) 1 h) ∙ mul-one d)))

-- a sum over the numbers 1 to n, by their greatest common divisors with n
pub gcd-sum : (n : ℕ) (f : ℕ → ℕ) → 0 < n → sum_to n (λ i. f (gcd i n)) ≡ over_divisors n (λ d. phi (n / d) * f d)
unfolding over_divisors
gcd-sum n f pos =
    sum-cong n (λ i. f (gcd i n)) (λ i. sum_to n (λ d. at d i)) (λ i a b. sym (one i a))
    ∙ sum-swap n n (λ i d. at d i)
    ∙ sum-cong n (λ d. sum_to n (at d)) (λ d. when (divides d n) (phi (n / d) * f d)) (λ d a b. class d a)
  where
    -- f d where the greatest common divisor of i and n is d
    at : ℕ → ℕ → ℕ
    at d i = f d * bit (eqb (gcd i n) d)

    one : (i : ℕ) → 0 < i → sum_to n (λ d. at d i) ≡ f (gcd i n)
    one i a =
        sum_one n (λ d. at d i) (gcd i n) (gcd-pos i n a pos) (gcd-le i n a pos) (λ d p b q. rw (ne_eqb (gcd i n) d q) (mul-zero (f d)))
        ∙ rw (eq-eqb (gcd i n) (gcd i n) refl) (mul-one (f (gcd i n)))

    class : (d : ℕ) → 0 < d → sum_to n (at d) ≡ when (divides d n) (phi (n / d) * f d)
    class d a =
        elim (test (divides d n)) [
          | passes e ↦ rw e (sum-scale n (f d) (λ i. bit (eqb (gcd i n) d)) ∙ ap (λ (x : ℕ). f d * x)
              (gcd-class d (n / d) n a (quotient-pos d n pos (of-divides d n e)) pos (quotient d n (of-divides d n e))) ∙ mul_comm (f d)
              (phi (n / d)))
          | fails e ↦ rw e (sum-zero n (at d) (λ i p b. rw (ne_eqb (gcd i n) d (λ y. not-divides d n e (subst (λ (x : ℕ). x ∣ n) y (gcd-common i n p pos).right))) (mul-zero (f d))))
        ]

-- the sum of phi over the divisors of n is n
pub phi-total : (n : ℕ) → 0 < n → over_divisors n phi ≡ n
phi-total n pos =
    sym (reindex n phi pos)
    ∙ over-cong n (λ d. phi (n / d)) (λ d. phi (n / d) * 1) (λ d a b q. sym (mul-one (phi (n / d))))
    ∙ sym (gcd-sum n (λ d. 1) pos)
    ∙ sum-const n 1
    ∙ mul-one n
