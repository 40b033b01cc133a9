-- Primes, square-free numbers and how many primes divide a number (specs/Mu).
--     prime-above, prime-only      a prime is at least 2, and only 1 and itself divide it
--     prime-gcd                    what a prime does not divide has no divisor in common with it but 1
--     has-prime                    each number from 2 on is divided by some prime
--     free-square, free_more       p j is square-free exactly where j is and p does not divide j
--     primes-more                  one prime more divides p j than j, where p does not divide j
use Rattle.words.proofs.Plain.{ℕ, zero, suc, ◌+◌, ◌*◌, ◌/◌, ◌<◌, ◌∣◌, arith, ◌≡◌, refl, sym, ap, subst, ◌∙◌, true, false, not, ◌&&◌, eqb, ltb, lt-ltb, ltb-true}
use Rattle.words.proofs.Plain.{eq-eqb, ne_eqb, eqb-true, not-true, not-false}
use native.Mathlib.Nat.{mul-pos, mul_left_comm, mul_comm, le-mul_of_pos_right}
use native.Mathlib.Nat.{dvd_refl, dvd_trans, dvd-mul_right, dvd-mul_left_of_dvd, le_of_dvd, pos_of_dvd_of_pos, mul-dvd-mul, mul-dvd-mul_left, dvd_of_mul-dvd-mul_left}
use Rattle.words.specs.{Search.all_below, Readings.bit}
use Rattle.words.proofs.Split.{Test, passes, fails, test, lt, eq, gt, tri, both, both_left, both_right, not_right, refuted, agree, clash}
use Rattle.words.proofs.Search.{all-at, all_of, not-all}
use Rattle.how_many_number_spec.specs.{Divisors.sum_to, Divisors.divides, Phi.gcd}
use Rattle.how_many_number_spec.specs.Mu.{divisor_from_two, prime, square_from_two, square_free, primes_of}
use Rattle.how_many_number_laws.proofs.Sums.{sum-cong, sum_one, sum-add, sum-wider}
use Rattle.how_many_number_laws.proofs.Divide.{divides-of, of-divides, divides-not, not-divides, quotient, quotient-pos}
use Rattle.how_many_number_laws.proofs.Gcd.{gcd-common, gauss}

-- ---- primes

-- a prime is at least 2
pub prime-above : (p : ℕ) → prime p ≡ true → 1 < p
unfolding prime
prime-above p h = ltb-true 1 p (both_left (ltb 1 p) (all_below p (λ d. not (divisor_from_two p d))) h)

-- no number from 2 on and below it divides it
prime-none : (p d : ℕ) → prime p ≡ true → 1 < d → d < p → d ∣ p → ⊥
unfolding prime divisor_from_two
prime-none p d h a b q =
    clash (divisor_from_two p d) (both (ltb 1 d) (divides d p) (lt-ltb 1 d a) (divides-of d p q))
    (not-true (divisor_from_two p d) (all-at p (λ d. not (divisor_from_two p d)) (both_right (ltb 1 p) (all_below p (λ d. not (divisor_from_two p d))) h)
    d b))

-- only 1 and itself divide it
pub prime-only : (p d : ℕ) → prime p ≡ true → d ∣ p → (d ≡ p → ⊥) → d ≡ 1
prime-only p d h q n =
    let a = prime-above p h in
    elim (tri d 1) [
      | lt l ↦ absurd (omega (arith, pos_of_dvd_of_pos q (omega arith)))
      | eq l ↦ l
      | gt l ↦ elim (tri d p) [ lt m ↦ absurd (prime-none p d h l m q) | eq m ↦ absurd (n m) | gt m ↦ absurd (omega (arith, le_of_dvd (omega arith) q)) ]
    ]

-- what a prime does not divide has no divisor in common with it but 1
pub prime-gcd : (p a : ℕ) → prime p ≡ true → 0 < a → (p ∣ a → ⊥) → gcd a p ≡ 1
prime-gcd p a h i n =
    let c = gcd-common a p i (omega (arith, prime-above p h)) in
    prime-only p (gcd a p) h c.right (λ e. n (subst (λ (x : ℕ). x ∣ a) e c.left))

-- a number from 2 on that is no prime has a divisor from 2 on and below it
smaller : (m : ℕ) → 1 < m → prime m ≡ false → (d : ℕ) × (d < m) × (not (divisor_from_two m d) ≡ false)
unfolding prime
smaller m l e =
    not-all m (λ d. not (divisor_from_two m d)) (refuted (all_below m (λ d. not (divisor_from_two m d)))
    (λ h. clash (prime m) (both (ltb 1 m) (all_below m (λ d. not (divisor_from_two m d))) (lt-ltb 1 m l) h) e))

found : (m d : ℕ) → not (divisor_from_two m d) ≡ false → (1 < d) × (d ∣ m)
unfolding divisor_from_two
found m d e =
    let h = not-false (divisor_from_two m d) e in
    (ltb-true 1 d (both_left (ltb 1 d) (divides d m) h), of-divides d m (both_right (ltb 1 d) (divides d m) h))

-- each number from 2 on is divided by some prime
pub has-prime : (m : ℕ) → 1 < m → (p : ℕ) × (prime p ≡ true) × (p ∣ m)
has-prime m l = go (suc m) m (omega arith) l
  where
    wider : (d m : ℕ) → d ∣ m → (p : ℕ) × (prime p ≡ true) × (p ∣ d) → (p : ℕ) × (prime p ≡ true) × (p ∣ m)
    wider d m q (p, h, s) = (p, h, dvd_trans p s q)

    go : (f m : ℕ) → m < f → 1 < m → (p : ℕ) × (prime p ≡ true) × (p ∣ m)
    go zero m b l = absurd (omega arith)
    go (suc f) m b l =
        elim (test (prime m)) [
          | passes e ↦ (m, e, dvd_refl m)
          | fails e ↦ let s = smaller m l e in let t = found m s.0 s.2 in wider s.0 m t.1 (go f s.0 (omega (arith, s.1)) t.0)
        ]

-- ---- square-free numbers

-- no square of a number from 2 on divides a square-free number
pub free-at : (m d : ℕ) → 0 < m → square_free m ≡ true → 1 < d → d * d ∣ m → ⊥
unfolding square_free square_from_two
free-at m d p h l q =
    clash (square_from_two m d) (both (ltb 1 d) (divides (d * d) m) (lt-ltb 1 d l) (divides-of (d * d) m q))
    (not-true (square_from_two m d) (all-at (suc m) (λ d. not (square_from_two m d)) h d (omega (arith, le_of_dvd p q, le-mul_of_pos_right {m = d} d (omega arith)))))

-- and a number with that property is square-free
pub free_of : (m : ℕ) → ((d : ℕ) → 1 < d → d * d ∣ m → ⊥) → square_free m ≡ true
unfolding square_free square_from_two
free_of m h =
    all_of (suc m) (λ d. not (square_from_two m d))
    (λ d l. rw (refuted (square_from_two m d) (λ e. h d (ltb-true 1 d (both_left (ltb 1 d) (divides (d * d) m) e)) (of-divides (d * d) m (both_right (ltb 1 d) (divides (d * d) m) e)))))

module _ (p j : ℕ) (h : prime p ≡ true) (i : 0 < j) where
  above : 0 < p
  above = omega (arith, prime-above p h)

  -- a prime twice
  pub free-square : p ∣ j → square_free (p * j) ≡ false
  free-square q = refuted (square_free (p * j)) (λ e. free-at (p * j) p (mul-pos above i) e (prime-above p h) (mul-dvd-mul_left p p q))

  -- a prime more
  pub free_more : (p ∣ j → ⊥) → square_free (p * j) ≡ square_free j
  free_more n =
      agree (square_free (p * j)) (square_free j) (λ e. free_of j (λ d l q. free-at (p * j) d (mul-pos above i) e l (dvd-mul_left_of_dvd (d * d) q p)))
      (λ e. free_of (p * j) (λ d l q. split e d l q (test (divides p d))))
    where
      split : square_free j ≡ true → (d : ℕ) → 1 < d → d * d ∣ p * j → Test (divides p d) → ⊥
      split e d l q (passes y) =
          let s = of-divides p d y in
          n (dvd_of_mul-dvd-mul_left p above (dvd_trans (p * p) (mul-dvd-mul p p s s) q))
      split e d l q (fails y) =
          let g : gcd d p ≡ 1 = prime-gcd p d h (omega arith) (not-divides p d y) in
          let a : d ∣ j = gauss d p j (omega arith) above i g (dvd_trans d (dvd-mul_right d d) q) in
          let b : d * (j / d) ≡ j = quotient d j a in
          let c : p * j ≡ d * (p * (j / d)) = ap (λ (x : ℕ). p * x) (sym b) ∙ mul_left_comm p d (j / d) in
          let t : d ∣ p * (j / d) = dvd_of_mul-dvd-mul_left d (omega arith) (subst (λ (x : ℕ). d * d ∣ x) c q) in
          let u : d ∣ j / d = gauss d p (j / d) (omega arith) above (quotient-pos d j i a) g t in
          free-at j d i e l (subst (λ (x : ℕ). d * d ∣ x) b (mul-dvd-mul_left d d u))

  -- ---- how many primes divide

  one-prime : (p ∣ j → ⊥) → (q : ℕ) → 0 < q → bit (prime q && divides q (p * j)) ≡ bit (eqb p q) + bit (prime q && divides q j)
  one-prime n q a =
      elim (test (eqb p q)) [
        | passes e ↦ let y = eqb-true p q e in rw (← y, eq-eqb p p refl, h, divides-of p (p * j) (dvd-mul_right p j), divides-not p j n)
        | fails e ↦ rw e (omega (arith, ap bit (other e (test (prime q)))))
      ]
    where
      other : eqb p q ≡ false → Test (prime q) → (prime q && divides q (p * j)) ≡ (prime q && divides q j)
      other e (fails y) = rw y
      other e (passes y) = rw y (agree (divides q (p * j)) (divides q j)
          (λ s. divides-of q j (gauss q p j a above i (prime-gcd p q h a apart) (of-divides q (p * j) s)))
          (λ s. divides-of q (p * j) (dvd-mul_left_of_dvd q (of-divides q j s) p)))
        where
          apart : p ∣ q → ⊥
          apart s = omega (arith, prime-above p h, prime-only q p y s (λ t. clash (eqb p q) (eq-eqb p q t) e))

  -- one prime more divides p j than j
  pub primes-more : (p ∣ j → ⊥) → primes_of (p * j) ≡ suc (primes_of j)
  unfolding primes_of
  primes-more n =
      sum-cong (p * j) (λ q. bit (prime q && divides q (p * j))) (λ q. bit (eqb p q) + bit (prime q && divides q j)) (λ q a b. one-prime n q a)
      ∙ sum-add (p * j) (λ q. bit (eqb p q)) (λ q. bit (prime q && divides q j))
      ∙ omega (arith, itself, rest)
    where
      itself : sum_to (p * j) (λ q. bit (eqb p q)) ≡ 1
      itself = sum_one (p * j) (λ q. bit (eqb p q)) p above (le-mul_of_pos_right {m = j} p i) (λ q a b y. rw (ne_eqb p q y)) ∙ rw (eq-eqb p p refl)

      rest : sum_to (p * j) (λ q. bit (prime q && divides q j)) ≡ sum_to j (λ q. bit (prime q && divides q j))
      rest =
          sum-wider j (p * j) (λ q. bit (prime q && divides q j)) (omega (arith, mul_comm p j, le-mul_of_pos_right {m = p} j above))
          (λ q a b. rw (not_right (prime q) (divides q j) (divides-not q j (λ s. omega (arith, le_of_dvd i s)))))
