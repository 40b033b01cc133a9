-- mu (specs/Mu).
--     plus-signs, minus-signs    mu of p j is the opposite of mu of j, and 0 where p divides j, for a prime p
--     mu-total                   over the divisors of m, mu is as often 1 as -1, but for m = 1, where it is 1 once more
use Rattle.words.proofs.Plain.{ℕ, zero, suc, ◌+◌, ◌*◌, ◌/◌, ◌%◌, ◌<◌, ◌∣◌, arith, ◌≡◌, refl, ap, subst, ◌∙◌, Bool, true, false, not, ◌&&◌, eqb, eq-eqb, ne_eqb}
use Rattle.words.proofs.Plain.{eqb-true}
use native.Mathlib.Nat.{mul_comm, le-mul_of_pos_right, dvd-mul_right, dvd-mul_left_of_dvd, le_of_dvd}
use Rattle.words.specs.{Search.all_below, Readings.bit}
use Rattle.words.proofs.Split.{Test, passes, fails, test, not_left, not_right, agree}
use Rattle.how_many_number_spec.specs.Divisors.{when, sum_to, divides, over_divisors}
use Rattle.how_many_number_spec.specs.Mu.{divisor_from_two, prime, square_from_two, square_free, primes_of, mu_plus, mu_minus}
use Rattle.how_many_number_laws.proofs.Sums.{sum-cong, sum-add, sum-wider}
use Rattle.how_many_number_laws.proofs.Divide.{divides-of, of-divides, divides-not, not-divides, divides-scale, quotient, quotient-pos, sum-multiples}
use Rattle.how_many_number_laws.proofs.Gcd.{gauss}
use Rattle.how_many_number_laws.proofs.Prime.{prime-above, prime-gcd, has-prime, free-square, free_more, primes-more}

-- ---- a prime more

even-suc : (n : ℕ) → eqb (suc n % 2) 0 ≡ eqb (n % 2) 1
even-suc n = agree (eqb (suc n % 2) 0) (eqb (n % 2) 1) (λ h. eq-eqb (n % 2) 1 (omega (arith, eqb-true (suc n % 2) 0 h))) (λ h. eq-eqb (suc n % 2) 0 (omega (arith, eqb-true (n % 2) 1 h)))

odd-suc : (n : ℕ) → eqb (suc n % 2) 1 ≡ eqb (n % 2) 0
odd-suc n = agree (eqb (suc n % 2) 1) (eqb (n % 2) 0) (λ h. eq-eqb (n % 2) 0 (omega (arith, eqb-true (suc n % 2) 1 h))) (λ h. eq-eqb (suc n % 2) 1 (omega (arith, eqb-true (n % 2) 0 h)))

-- s and t are the two signs: they change places where a prime more divides, and both fail where a square does
pub record Signs (s t : ℕ → Bool) : Type 0 where
  pub turns : (p j : ℕ) → prime p ≡ true → 0 < j → (p ∣ j → ⊥) → s (p * j) ≡ t j
  pub fails-at : (p j : ℕ) → prime p ≡ true → 0 < j → p ∣ j → s (p * j) ≡ false

-- mu at a prime more
pub plus-signs : Signs mu_plus mu_minus
unfolding mu_plus mu_minus
plus-signs =
    record {
      turns = λ p j h i n. rw (free_more p j h i n, primes-more p j h i n, even-suc (primes_of j));
      fails-at = λ p j h i q. rw (free-square p j h i q);
    }

pub minus-signs : Signs mu_minus mu_plus
unfolding mu_plus mu_minus
minus-signs =
    record {
      turns = λ p j h i n. rw (free_more p j h i n, primes-more p j h i n, odd-suc (primes_of j));
      fails-at = λ p j h i q. rw (free-square p j h i q);
    }

-- ---- the divisors of p b: those that p does not divide, and p times those

module _ (p b : ℕ) (h : prime p ≡ true) (pos : 0 < b) where
  above : 0 < p
  above = omega (arith, prime-above p h)

  -- how many of the divisors of b that p does not divide pass
  free : (ℕ → Bool) → ℕ
  free s = sum_to b (λ c. bit (divides c b && (not (divides p c) && s c)))

  module _ (s t : ℕ → Bool) (signs : Signs s t) where
    parts : (c : ℕ) → when (divides c (p * b)) (bit (s c)) ≡ bit (divides c (p * b) && (not (divides p c) && s c)) + bit (divides c (p * b) && (divides p c && s c))
    parts c =
        elim (test (divides c (p * b))) [
          | fails e ↦ rw e
          | passes e ↦ rw e (elim (test (divides p c)) [ passes y ↦ rw y (omega arith) | fails y ↦ rw y (omega arith) ])
        ]

    apart : sum_to (p * b) (λ c. bit (divides c (p * b) && (not (divides p c) && s c))) ≡ free s
    unfolding free
    apart =
        sum-cong (p * b) (λ c. bit (divides c (p * b) && (not (divides p c) && s c))) (λ c. bit (divides c b && (not (divides p c) && s c))) (λ c a l. ap bit (at c a (test (divides p c))))
        ∙ sum-wider b (p * b) (λ c. bit (divides c b && (not (divides p c) && s c)))
        (omega (arith, mul_comm p b, le-mul_of_pos_right {m = p} b above)) (λ c a l. rw (divides-not c b (λ q. omega (arith, le_of_dvd pos q))))
      where
        at : (c : ℕ) → 0 < c → Test (divides p c) → (divides c (p * b) && (not (divides p c) && s c)) ≡ (divides c b && (not (divides p c) && s c))
        at c a (passes y) = rw (y, not_right (divides c (p * b)) false refl, not_right (divides c b) false refl)
        at c a (fails y) =
            let e : divides c (p * b) ≡ divides c b = agree (divides c (p * b)) (divides c b)
            (λ q. divides-of c b (gauss c p b a above pos (prime-gcd p c h a (not-divides p c y)) (of-divides c (p * b) q)))
            (λ q. divides-of c (p * b) (dvd-mul_left_of_dvd c (of-divides c b q) p)) in
            rw e

    times : sum_to (p * b) (λ c. bit (divides c (p * b) && (divides p c && s c))) ≡ free t
    unfolding free
    times =
        sum-multiples p b (λ c. bit (divides c (p * b) && (divides p c && s c))) above (λ c a l y. rw (not_right (divides c (p * b)) (divides p c && s c) (not_left (divides p c) (s c) y)))
        ∙ sum-cong b (λ j. bit (divides (p * j) (p * b) && (divides p (p * j) && s (p * j)))) (λ j. bit (divides j b && (not (divides p j) && t j))) (λ j a l. ap bit (at j a (test (divides p j))))
      where
        at : (j : ℕ) → 0 < j → Test (divides p j) → (divides (p * j) (p * b) && (divides p (p * j) && s (p * j))) ≡ (divides j b && (not (divides p j) && t j))
        at j a (passes y) = rw (divides-scale p j b above, divides-of p (p * j) (dvd-mul_right p j), y, signs.fails-at p j h a (of-divides p j y))
        at j a (fails y) = rw (divides-scale p j b above, divides-of p (p * j) (dvd-mul_right p j), y, signs.turns p j h a (not-divides p j y))

    two-parts : over_divisors (p * b) (λ c. bit (s c)) ≡ free s + free t
    unfolding over_divisors
    two-parts =
        sum-cong (p * b) (λ c. when (divides c (p * b)) (bit (s c))) (λ c. bit (divides c (p * b) && (not (divides p c) && s c)) + bit (divides c (p * b) && (divides p c && s c))) (λ c a l. parts c)
        ∙ sum-add (p * b) (λ c. bit (divides c (p * b) && (not (divides p c) && s c))) (λ c. bit (divides c (p * b) && (divides p c && s c)))
        ∙ omega (arith, apart, times)

  balanced : over_divisors (p * b) (λ c. bit (mu_plus c)) ≡ over_divisors (p * b) (λ c. bit (mu_minus c))
  balanced = omega (arith, two-parts mu_plus mu_minus plus-signs, two-parts mu_minus mu_plus minus-signs)

-- over the divisors of m, mu is as often 1 as -1, but for m = 1, where it is 1 once more
pub mu-total : (m : ℕ) → 0 < m → over_divisors m (λ c. bit (mu_plus c)) ≡ over_divisors m (λ c. bit (mu_minus c)) + bit (eqb m 1)
unfolding over_divisors sum_to divides mu_plus mu_minus square_free square_from_two primes_of prime divisor_from_two all_below
mu-total zero p = absurd (omega arith)
mu-total (suc zero) p = refl
mu-total (suc (suc m)) p = rw (ne_eqb (suc (suc m)) 1 (λ e. omega arith)) (go (has-prime (suc (suc m)) (omega arith)))
  where
    go : (q : ℕ) × (prime q ≡ true) × (q ∣ suc (suc m)) → over_divisors (suc (suc m)) (λ c. bit (mu_plus c)) ≡ over_divisors (suc (suc m)) (λ c. bit (mu_minus c)) + 0
    go (q, h, d) =
        let e = quotient q (suc (suc m)) d in
        let z = quotient-pos q (suc (suc m)) (omega arith) d in
        subst (λ (x : ℕ). over_divisors x (λ c. bit (mu_plus c)) ≡ over_divisors x (λ c. bit (mu_minus c)) + 0) e (omega (arith, balanced q (suc (suc m) / q) h z))
