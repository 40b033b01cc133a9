-- Necklaces by their periods: a necklace of period d is a Lyndon word of length d repeated (`ring_total_laws`, proofs/Beginnings). For n from 1 on and every k:
--     period-class          as many necklaces of n have the period d as there are Lyndon words of d, where d divides n, and none otherwise
--     total-grouped         so a total over the necklaces of values of their periods is a sum over the divisors of n
--     necklaces-grouped     the necklaces of n are the Lyndon words of all divisors of n together
--     readings-grouped      k ^ n is the sum of d times the Lyndon words of d, over the divisors d of n
use Rattle.words.proofs.Plain.{ℕ, zero, suc, ◌*◌, ◌%◌, ◌^◌, ◌<◌, ◌≤◌, ◌∣◌, arith, dec_lt, ◌≡◌, refl, sym, ap, subst, ◌∙◌, Bool, true, false, List, eqb, take}
use Rattle.words.proofs.Plain.{eq-eqb, ne_eqb, eqb-true}
use native.Mathlib.Nat.{one-mul, mul-one, mul-zero, zero-mul, pow-succ', dvd_of_mod-eq-zero}
use Rattle.words.specs.Readings.{Reading, fan, readings, bit, total, count}
use Rattle.words.proofs.Split.{passes, fails, test, both_right, refuted}
use Rattle.words.proofs.{Readings.readings-all, Count.total-cong, Count.count-zero}
use Rattle.rings.specs.Necklace.{necklace, period, lyndon}
use Rattle.rings.specs.{Next.repeated, Steps.FullWalk, Steps.how_many}
use Rattle.ring_laws.proofs.FullWalk.{walk-exists, zeros}
use Rattle.ring_home_laws.proofs.Period.{period-pos, period-le, period-divides}
use Rattle.how_many_number_spec.specs.Divisors.{when, sum_to, divides, over_divisors}
use Rattle.how_many_number_laws.proofs.Sums.{sum-cong, sum_one, sum-zero, scale-when}
use Rattle.how_many_number_laws.proofs.Divide.{of-divides, not-divides, over-cong, over-scale}
use Rattle.ring_total_laws.proofs.Beginnings.{necklace_by, beginning-lyndon, repeated-necklace}
use Rattle.ring_total_laws.proofs.OneRing.{period-sum}
use Rattle.how_many_period_laws.proofs.Totals.{total-scale, total-to, count-pair}
use Rattle.how_many_period_laws.proofs.WalkTotals.{walk-total}

-- 0 to a power from 1 on
zero-pow : (n : ℕ) → 0 < n → 0 ^ n ≡ 0
zero-pow zero p = absurd (omega arith)
zero-pow (suc n) p = pow-succ' 0 n ∙ zero-mul (0 ^ n)

-- without shades there is no reading, so nothing to count
no-shades : (kind : List ℕ → Bool) (d : ℕ) → 0 < d → how_many kind d 0 ≡ 0
unfolding how_many readings fan total
no-shades kind zero p = absurd (omega arith)
no-shades kind (suc d) p = refl

module _ (n k : ℕ) (z : 0 < n) where
  -- as many necklaces of n have the period d as there are Lyndon words of d, where d divides n, and none otherwise
  pub period-class : (d : ℕ) → 0 < d → d ≤ n → count (necklace_by d) (readings n k) ≡ when (divides d n) (how_many lyndon d k)
  unfolding how_many necklace_by
  period-class d p b = elim (test (divides d n)) [ passes e ↦ rw e (pairs (of-divides d n e)) | fails e ↦ rw e (count-zero (necklace_by d) (readings n k) (none e) (readings-all n k)) ]
    where
      pairs : d ∣ n → count (necklace_by d) (readings n k) ≡ count lyndon (readings d k)
      pairs q = count-pair n d k (necklace_by d) lyndon (take d) (repeated n) (λ w r h. beginning-lyndon n d k w z r h) (λ u r h. repeated-necklace n d k u p b q r h)

      none : divides d n ≡ false → (w : List ℕ) → Reading n k w → necklace_by d w ≡ false
      none e w r =
          refuted (necklace_by d w) (λ h.
          let t : period w ≡ d = eqb-true (period w) d (both_right (necklace w) (eqb (period w) d) h) in
          not-divides d n e (dvd_of_mod-eq-zero d (subst (λ (x : ℕ). n % x ≡ 0) t (subst (λ (x : ℕ). x % period w ≡ 0) r.long (period-divides w (omega (arith, r.long)))))))

  -- a value of a necklace, by its period
  by-period : (g : ℕ → ℕ) (w : List ℕ) → Reading n k w → when (necklace w) (g (period w)) ≡ sum_to n (λ d. g d * bit (necklace_by d w))
  unfolding necklace_by
  by-period g w r = elim (test (necklace w)) [ passes e ↦ rw e (sym one) | fails e ↦ rw e (sym (sum-zero n (λ d. g d * 0) (λ d a b. mul-zero (g d)))) ]
    where
      one : sum_to n (λ d. g d * bit (eqb (period w) d)) ≡ g (period w)
      one =
          sum_one n (λ d. g d * bit (eqb (period w) d)) (period w) (period-pos w) (omega (arith, period-le w (omega (arith, r.long)), r.long))
          (λ d a b q. rw (ne_eqb (period w) d q) (mul-zero (g d)))
          ∙ rw (eq-eqb (period w) (period w) refl) (mul-one (g (period w)))

  -- a total over the necklaces, by their periods
  pub total-grouped : (g : ℕ → ℕ) → total (λ w. when (necklace w) (g (period w))) (readings n k) ≡ over_divisors n (λ d. g d * how_many lyndon d k)
  unfolding over_divisors
  total-grouped g =
      total-cong (λ w. when (necklace w) (g (period w))) (λ w. sum_to n (λ d. g d * bit (necklace_by d w))) (readings n k) (by-period g) (readings-all n k)
      ∙ total-to n (λ d w. g d * bit (necklace_by d w)) (readings n k)
      ∙ sum-cong n (λ d. total (λ w. g d * bit (necklace_by d w)) (readings n k)) (λ d. when (divides d n) (g d * how_many lyndon d k)) class
    where
      class : (d : ℕ) → 0 < d → d ≤ n → total (λ w. g d * bit (necklace_by d w)) (readings n k) ≡ when (divides d n) (g d * how_many lyndon d k)
      class d a b =
          total-scale (g d) (λ w. bit (necklace_by d w)) (readings n k)
          ∙ ap (λ (x : ℕ). g d * x) (period-class d a b)
          ∙ scale-when (g d) (divides d n) (how_many lyndon d k)

  -- the necklaces of n are the Lyndon words of all divisors of n together
  pub necklaces-grouped : how_many necklace n k ≡ over_divisors n (λ d. how_many lyndon d k)
  unfolding how_many over_divisors
  necklaces-grouped =
      total-cong (λ w. bit (necklace w)) (λ w. when (necklace w) 1) (readings n k) (λ w r. at (necklace w)) (readings-all n k)
      ∙ total-grouped (λ d. 1)
      ∙ sum-cong n (λ d. when (divides d n) (1 * how_many lyndon d k)) (λ d. when (divides d n) (how_many lyndon d k)) (λ d a b. ap (when (divides d n)) (one-mul (how_many lyndon d k)))
    where
      at : (b : Bool) → bit b ≡ when b 1
      at true = refl
      at false = refl

  -- k ^ n is the sum of d times the Lyndon words of d, over the divisors d of n
  pub readings-grouped : k ^ n ≡ over_divisors n (λ d. d * how_many lyndon d k)
  readings-grouped = elim (dec_lt 0 k) [ yes y ↦ by-walk y (walk-exists necklace k (zeros n)) | no y ↦ without (omega arith) ]
    where
      by-walk : 0 < k → (rings : List (List ℕ)) × (m : ℕ) × FullWalk necklace k (zeros n) rings m → k ^ n ≡ over_divisors n (λ d. d * how_many lyndon d k)
      by-walk y (rings, m, f) = sym (period-sum n k z y rings m f) ∙ walk-total n k z y rings m f period ∙ total-grouped (λ d. d)

      -- without shades there is nothing on either side
      without : k ≡ 0 → k ^ n ≡ over_divisors n (λ d. d * how_many lyndon d k)
      without e =
          rw e (
          zero-pow n z
          ∙ sym (over-cong n (λ d. d * how_many lyndon d 0) (λ d. 0 * 0) (λ d a b q. ap (λ (x : ℕ). d * x) (no-shades lyndon d a) ∙ mul-zero d) ∙
          over-scale n 0 (λ d. 0) ∙ zero-mul (over_divisors n (λ d. 0)))
          )
