-- Divisors, and sums over them.
--     divides-of, of-divides, divides-not    the test `divides`, and the library's ∣
--     quotient, quotient-pos, quotient-of    what a divisor leaves
--     sum-multiples                          a sum with values at multiples of e only
--     over-cong, over-scale, over_add        sums over divisors of equal values, of multiples and of sums
--     reindex                                the sum of g (m / d) over the divisors d of m is that of g d
--     quotient-twice, other_way              the same of a product of values at d and at m / d
--     convolve                               a sum over divisors of sums over divisors, in the other order
use Rattle.words.proofs.Plain.{ℕ, zero, suc, ◌+◌, ◌*◌, ◌/◌, ◌%◌, ◌<◌, ◌≤◌, ◌∣◌, arith, ◌≡◌, refl, sym, ap, subst, ◌∙◌, ⊎_elim, Bool, true, false, ◌&&◌, eqb}
use Rattle.words.proofs.Plain.{eq-eqb, ne_eqb, eqb-true}
use native.Mathlib.Nat.{
  mul-zero,
  mul-suc,
  mul_comm,
  mod-eq_of_lt,
  mul-add-mod_self_left,
  mod-eq-zero_of_dvd,
  dvd_of_mod-eq-zero,
  mul-div_cancel',
  eq-zero-or-pos,
  dvd-mul_right,
  dvd_trans,
  le_of_dvd,
  div-le_self,
  eq_of_mul-eq-mul_left,
  mul-dvd-mul_left,
  dvd_of_mul-dvd-mul_left,
  mul-div-mul_left,
  div-eq_of_eq-mul_left,
}
use Rattle.words.proofs.Split.{passes, fails, test, refuted, clash, agree, not_right, both_left, both_right}
use Rattle.how_many_number_spec.specs.Divisors.{when, sum_to, divides, over_divisors}
use Rattle.how_many_number_laws.proofs.Sums.{sum-cong, sum-zero, sum_one, sum-add, sum-scale, sum-swap, sum-append, sum-wider, scale-when}

-- ---- the test and ∣

pub divides-of : (d n : ℕ) → d ∣ n → divides d n ≡ true
unfolding divides
divides-of d n h = eq-eqb (n % d) 0 (mod-eq-zero_of_dvd d h)

pub of-divides : (d n : ℕ) → divides d n ≡ true → d ∣ n
unfolding divides
of-divides d n h = dvd_of_mod-eq-zero d (eqb-true (n % d) 0 h)

pub divides-not : (d n : ℕ) → (d ∣ n → ⊥) → divides d n ≡ false
divides-not d n h = refuted (divides d n) (λ e. h (of-divides d n e))

pub not-divides : (d n : ℕ) → divides d n ≡ false → d ∣ n → ⊥
not-divides d n e h = clash (divides d n) (divides-of d n h) e

-- what a divisor leaves
pub quotient : (d n : ℕ) → d ∣ n → d * (n / d) ≡ n
quotient d n h = mul-div_cancel' d h

pub quotient-pos : (d n : ℕ) → 0 < n → d ∣ n → 0 < n / d
quotient-pos d n p h = ⊎_elim (λ e. absurd (omega (arith, sym (quotient d n h) ∙ ap (λ (x : ℕ). d * x) e ∙ mul-zero d))) (λ q. q) (eq-zero-or-pos (n / d))

-- a multiple of a factor in common
pub divides-scale : (e j m : ℕ) → 0 < e → divides (e * j) (e * m) ≡ divides j m
divides-scale e j m z =
    agree (divides (e * j) (e * m)) (divides j m) (λ h. divides-of j m (dvd_of_mul-dvd-mul_left j z (of-divides (e * j) (e * m) h)))
    (λ h. divides-of (e * j) (e * m) (mul-dvd-mul_left j e (of-divides j m h)))

-- ---- sums over multiples

-- between two multiples of e there is none
between : (e m i : ℕ) → 0 < i → i < e → divides e (e * m + i) ≡ false
unfolding divides
between e m i p l = ne_eqb ((e * m + i) % e) 0 (λ q. omega (arith, sym (mul-add-mod_self_left e m i ∙ mod-eq_of_lt l) ∙ q))

-- a sum with values at multiples of e only
pub sum-multiples : (e m : ℕ) (f : ℕ → ℕ) → 0 < e → ((i : ℕ) → 0 < i → i ≤ e * m → divides e i ≡ false → f i ≡ 0) → sum_to (e * m) f ≡ sum_to m (λ j. f (e * j))
unfolding sum_to
sum-multiples e zero f z h = ap (λ (x : ℕ). sum_to x f) (mul-zero e)
sum-multiples e (suc m) f z h =
    ap (λ (x : ℕ). sum_to x f) (mul-suc e m)
    ∙ sum-append (e * m) e f
    ∙ ap (λ (x : ℕ). x + sum_to e (λ i. f (e * m + i))) (sum-multiples e m f z (λ i p l. h i p (omega (arith, mul-suc e m))))
    ∙ ap (λ (x : ℕ). sum_to m (λ j. f (e * j)) + x) last
  where
    last : sum_to e (λ i. f (e * m + i)) ≡ f (e * suc m)
    last =
        sum_one e (λ i. f (e * m + i)) e z (omega arith) (λ i p l q. h (e * m + i) (omega arith) (omega (arith, mul-suc e m)) (between e m i p (omega arith)))
        ∙ ap f (sym (mul-suc e m))

-- ---- sums over divisors

-- sums over divisors of equal values
pub over-cong : (n : ℕ) (f g : ℕ → ℕ) → ((d : ℕ) → 0 < d → d ≤ n → d ∣ n → f d ≡ g d) → over_divisors n f ≡ over_divisors n g
unfolding over_divisors
over-cong n f g h =
    sum-cong n (λ d. when (divides d n) (f d)) (λ d. when (divides d n) (g d))
    (λ d p l. elim (test (divides d n)) [ passes e ↦ rw e (h d p l (of-divides d n e)) | fails e ↦ rw e ])

-- a multiple of a sum over divisors
pub over-scale : (n c : ℕ) (f : ℕ → ℕ) → over_divisors n (λ d. c * f d) ≡ c * over_divisors n f
unfolding over_divisors
over-scale n c f =
    sum-cong n (λ d. when (divides d n) (c * f d)) (λ d. c * when (divides d n) (f d)) (λ d a b. sym (scale-when c (divides d n) (f d)))
    ∙ sum-scale n c (λ d. when (divides d n) (f d))

-- a sum over divisors of sums
pub over_add : (n : ℕ) (f g : ℕ → ℕ) → over_divisors n (λ d. f d + g d) ≡ over_divisors n f + over_divisors n g
unfolding over_divisors
over_add n f g =
    sum-cong n (λ d. when (divides d n) (f d + g d)) (λ d. when (divides d n) (f d) + when (divides d n) (g d)) (λ d a b. at (divides d n) (f d) (g d))
    ∙ sum-add n (λ d. when (divides d n) (f d)) (λ d. when (divides d n) (g d))
  where
    at : (b : Bool) (x y : ℕ) → when b (x + y) ≡ when b x + when b y
    at true x y = refl
    at false x y = refl

-- the only c with j * c = m is m / j, where j divides m
factor : (j m : ℕ) (x : ℕ → ℕ) → 0 < j → 0 < m → sum_to m (λ c. when (eqb (j * c) m) (x c)) ≡ when (divides j m) (x (m / j))
factor j m x z p = elim (test (divides j m)) [ passes e ↦ rw e (one (of-divides j m e)) | fails e ↦ rw e (none e) ]
  where
    none : divides j m ≡ false → sum_to m (λ c. when (eqb (j * c) m) (x c)) ≡ 0
    none e = sum-zero m (λ c. when (eqb (j * c) m) (x c)) (λ c a b. rw (ne_eqb (j * c) m (λ q. not-divides j m e (subst (λ (y : ℕ). j ∣ y) q (dvd-mul_right j c)))))

    one : j ∣ m → sum_to m (λ c. when (eqb (j * c) m) (x c)) ≡ x (m / j)
    one h =
        sum_one m (λ c. when (eqb (j * c) m) (x c)) (m / j) (quotient-pos j m p h) (div-le_self m j)
        (λ i a b q. rw (ne_eqb (j * i) m (λ y. q (eq_of_mul-eq-mul_left j z (m / j) i (quotient j m h ∙ sym y)))))
        ∙ rw (eq-eqb (j * (m / j)) m (quotient j m h))

-- the sum of g (m / d) over the divisors d of m is that of g d
pub reindex : (m : ℕ) (g : ℕ → ℕ) → 0 < m → over_divisors m (λ d. g (m / d)) ≡ over_divisors m g
unfolding over_divisors
reindex m g p =
    sum-cong m (λ d. when (divides d m) (g (m / d))) (λ d. sum_to m (λ c. when (eqb (d * c) m) (g c))) (λ d a b. sym (factor d m g a p))
    ∙ sum-swap m m (λ d c. when (eqb (d * c) m) (g c))
    ∙ sum-cong m (λ c. sum_to m (λ d. when (eqb (d * c) m) (g c))) (λ c. when (divides c m) (g c)) (λ c a b. back c a)
  where
    back : (c : ℕ) → 0 < c → sum_to m (λ d. when (eqb (d * c) m) (g c)) ≡ when (divides c m) (g c)
    back c a =
        sum-cong m (λ d. when (eqb (d * c) m) (g c)) (λ d. when (eqb (c * d) m) (g c)) (λ d y l. ap (λ (x : ℕ). when (eqb x m) (g c)) (mul_comm d c))
        ∙ factor c m (λ d. g c) a p

-- the quotient by a quotient
pub quotient-twice : (d n : ℕ) → 0 < n → d ∣ n → n / (n / d) ≡ d
quotient-twice d n p h = div-eq_of_eq-mul_left (quotient-pos d n p h) (sym (quotient d n h))

-- a product of values at d and at n / d may be summed either way round
pub other_way : (n : ℕ) (g h : ℕ → ℕ) → 0 < n → over_divisors n (λ d. g d * h (n / d)) ≡ over_divisors n (λ d. g (n / d) * h d)
other_way n g h p =
    sym (reindex n (λ d. g d * h (n / d)) p)
    ∙ over-cong n (λ d. g (n / d) * h (n / (n / d))) (λ d. g (n / d) * h d) (λ d a b q. ap (λ (x : ℕ). g (n / d) * h x) (quotient-twice d n p q))

module _ (n : ℕ) (g h : ℕ → ℕ) (pos : 0 < n) where
  -- the value at the pair of d, which divides n, and e, which divides d
  pair : ℕ → ℕ → ℕ
  pair d e = when (divides d n && divides e d) (g (n / d) * h e)

  by-outer : (d : ℕ) → 0 < d → d ≤ n → when (divides d n) (g (n / d) * over_divisors d h) ≡ sum_to n (λ e. pair d e)
  unfolding over_divisors pair
  by-outer d p l = elim (test (divides d n)) [ passes e ↦ rw e (inner e) | fails e ↦ rw e (sym (sum-zero n (λ x. 0) (λ i a b. refl))) ]
    where
      beyond : (i : ℕ) → d < i → divides i d ≡ false
      beyond i b = divides-not i d (λ q. omega (arith, le_of_dvd p q))

      inner : divides d n ≡ true → g (n / d) * sum_to d (λ e. when (divides e d) (h e)) ≡ sum_to n (λ e. when (divides e d) (g (n / d) * h e))
      inner e =
          ap (λ (x : ℕ). g (n / d) * x) (sym (sum-wider d n (λ e. when (divides e d) (h e)) l (λ i b c. rw (beyond i b))))
          ∙ sym (sum-scale n (g (n / d)) (λ e. when (divides e d) (h e)))
          ∙ sum-cong n (λ e. g (n / d) * when (divides e d) (h e)) (λ e. when (divides e d) (g (n / d) * h e)) (λ i a b. scale-when (g (n / d)) (divides i d) (h i))

  by-inner : (e : ℕ) → 0 < e → sum_to n (λ d. pair d e) ≡ when (divides e n) (over_divisors (n / e) g * h e)
  unfolding pair over_divisors
  by-inner e z = elim (test (divides e n)) [ passes q ↦ rw q (along (n / e) (quotient e n (of-divides e n q)) (quotient-pos e n pos (of-divides e n q))) | fails q ↦ rw q (none q) ]
    where
      none : divides e n ≡ false → sum_to n (λ d. pair d e) ≡ 0
      none q =
          sum-zero n (λ d. pair d e) (λ d a b. rw (refuted (divides d n && divides e d) (λ y. not-divides e n q
          (dvd_trans e (of-divides e d (both_right (divides d n) (divides e d) y)) (of-divides d n (both_left (divides d n) (divides e d) y))))))

      at : (m j : ℕ) → e * m ≡ n → pair (e * j) e ≡ h e * when (divides j m) (g (m / j))
      at m j q =
          let t : divides (e * j) n ≡ divides j m = ap (divides (e * j)) (sym q) ∙ divides-scale e j m z in
          let u : n / (e * j) ≡ m / j = ap (λ (x : ℕ). x / (e * j)) (sym q) ∙ mul-div-mul_left m j z in
          rw (t, u, divides-of e (e * j) (dvd-mul_right e j)) (elim (test (divides j m)) [ passes y ↦ rw y (mul_comm (g (m / j)) (h e)) | fails y ↦ rw y (sym (mul-zero (h e))) ])

      along : (m : ℕ) → e * m ≡ n → 0 < m → sum_to n (λ d. pair d e) ≡ over_divisors m g * h e
      along m q p =
          ap (λ (x : ℕ). sum_to x (λ d. pair d e)) (sym q)
          ∙ sum-multiples e m (λ d. pair d e) z (λ i a b y. rw (not_right (divides i n) (divides e i) y))
          ∙ sum-cong m (λ j. pair (e * j) e) (λ j. h e * when (divides j m) (g (m / j))) (λ j a b. at m j q)
          ∙ sum-scale m (h e) (λ j. when (divides j m) (g (m / j)))
          ∙ ap (λ (x : ℕ). h e * x) (reindex m g p)
          ∙ mul_comm (h e) (sum_to m (λ d. when (divides d m) (g d)))

  -- a sum over divisors of sums over divisors, in the other order
  pub convolve : over_divisors n (λ d. g (n / d) * over_divisors d h) ≡ over_divisors n (λ e. over_divisors (n / e) g * h e)
  unfolding over_divisors
  convolve =
      sum-cong n (λ d. when (divides d n) (g (n / d) * over_divisors d h)) (λ d. sum_to n (λ e. pair d e)) by-outer
      ∙ sum-swap n n pair
      ∙ sum-cong n (λ e. sum_to n (λ d. pair d e)) (λ e. when (divides e n) (over_divisors (n / e) g * h e)) (λ e p l. by-inner e p)
