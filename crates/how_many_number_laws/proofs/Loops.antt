-- One turn of each loop that counts or tries divisors, over the definitions of `how_many_number_spec`.
--     both-no, both_yes                          a common divisor
--     gcd-start, gcd-found, gcd-on, gcd-end      the greatest one, from b down
--     sum-start, sum-on, sum-end                 a sum, summand after summand
--     bit-from                                   a test, as a number
--     trial-start, trial_on, trial-fall          trial division
--     prime-small, prime-no, prime-yes           by it, a prime
--     square-no, square-yes                      and a square-free number
--     square-fits, square-pos                    the square of a number up to 64
use mir.Val.{bool_byte}
use Rattle.words.proofs.Plain.{ℕ, zero, suc, ◌+◌, ◌-◌, ◌*◌, ◌%◌, ◌<◌, ◌≤◌, add-one, arith, ◌≡◌, refl, sym, ◌∙◌, Bool, true, false, not, ◌&&◌, eqb, ltb, lt-ltb}
use Rattle.words.proofs.Plain.{le-ltb, eq-eqb, ne_eqb, not-true}
use native.Mathlib.Nat.{mul-le-mul}
use Rattle.words.specs.{Search.all_below, Search.greatest, Readings.bit}
use Rattle.words.proofs.Split.{both, not_right, refuted, clash}
use Rattle.words.proofs.Search.{all-at}
use Rattle.how_many_number_spec.specs.{Divisors.sum_to, Divisors.divides, Phi.divides_both, Phi.gcd}
use Rattle.how_many_number_spec.specs.Mu.{divisor_from_two, prime, square_from_two, square_free}

-- ---- the greatest common divisor

pub both-no : (a b d : ℕ) → (a % d ≡ 0 → ⊥) → false ≡ divides_both a b d
unfolding divides_both divides
both-no a b d h = rw (ne_eqb (a % d) 0 h)

pub both_yes : (a b d : ℕ) → a % d ≡ 0 → eqb (b % d) 0 ≡ divides_both a b d
unfolding divides_both divides
both_yes a b d h = rw (eq-eqb (a % d) 0 h)

greatest-here : (f : ℕ → Bool) (g : ℕ) → f (suc g) ≡ true → greatest (suc g) f ≡ suc g
unfolding greatest
greatest-here f g e = rw (e, greatest)

greatest-below : (f : ℕ → Bool) (g : ℕ) → f (suc g) ≡ false → greatest (suc g) f ≡ greatest g f
unfolding greatest
greatest-below f g e = rw (e, greatest)

module _ (a b : ℕ) where
  pub gcd-start : gcd a b ≡ greatest b (divides_both a b)
  unfolding gcd
  gcd-start = refl

  pub gcd-found : (g : ℕ) → gcd a b ≡ greatest g (divides_both a b) → 0 < g → true ≡ divides_both a b g → g ≡ gcd a b
  gcd-found zero e z t = absurd (omega arith)
  gcd-found (suc g) e z t = sym (e ∙ greatest-here (divides_both a b) g (sym t))

  pub gcd-on : (g : ℕ) → gcd a b ≡ greatest g (divides_both a b) → 0 < g → false ≡ divides_both a b g → gcd a b ≡ greatest (g - 1) (divides_both a b)
  gcd-on zero e z t = absurd (omega arith)
  gcd-on (suc g) e z t = let q : suc g - 1 ≡ g = omega arith in rw q (e ∙ greatest-below (divides_both a b) g (sym t))

  pub gcd-end : (g : ℕ) → gcd a b ≡ greatest g (divides_both a b) → g ≤ 0 → 0 ≡ gcd a b
  unfolding greatest
  gcd-end zero e z = sym e
  gcd-end (suc g) e z = absurd (omega arith)

-- ---- sums

-- a summand more
pub sum-on : (f : ℕ → ℕ) (x i y : ℕ) → x ≡ sum_to i f → y ≡ f (i + 1) → x + y ≡ sum_to (i + 1) f
unfolding sum_to
sum-on f x i y p q = let e : y ≡ f (suc i) = rw (add-one i) at q in rw (add-one i) (omega (arith, p, e))

pub sum-start : (f : ℕ → ℕ) → 0 ≡ sum_to 0 f
unfolding sum_to
sum-start f = refl

pub sum-end : (f : ℕ → ℕ) (x i m : ℕ) → i ≤ m → m ≤ i → x ≡ sum_to i f → x ≡ sum_to m f
sum-end f x i m a b p = let q : i ≡ m = omega arith in rw q at p

-- a test, as a number
pub bit-from : (x : ℕ) (b t : Bool) → x ≡ bool_byte b → b ≡ t → (x ≡ bit t) × (x ≤ 1)
bit-from x b true e h = rw (e, h) (refl, omega arith)
bit-from x b false e h = rw (e, h) (refl, omega arith)

-- ---- trial division

module _ (t : ℕ → Bool) where
  -- no number from 2 on and below n passes
  abbrev pub trials : ℕ → Bool
  trials n = all_below n (λ d. not (ltb 1 d && t d))

  pub trial-start : trials 2 ≡ true
  unfolding all_below
  trial-start = refl

  pub trial_on : (d : ℕ) → trials d ≡ true → t d ≡ false → trials (d + 1) ≡ true
  unfolding all_below
  trial_on d h e = rw (add-one d) (both (trials d) (not (ltb 1 d && t d)) h (rw (not_right (ltb 1 d) (t d) e)))

  pub trial-fall : (n d : ℕ) → 1 < d → d < n → t d ≡ true → trials n ≡ false
  trial-fall n d l m e =
      refuted (trials n) (λ h. clash (ltb 1 d && t d) (both (ltb 1 d) (t d) (lt-ltb 1 d l) e) (not-true (ltb 1 d && t d) (all-at n (λ d. not (ltb 1 d && t d)) h d m)))

-- p is a prime
module _ (p : ℕ) where
  pub prime-small : p < 2 → false ≡ prime p
  unfolding prime
  prime-small h = rw (le-ltb 1 p (omega arith))

  pub prime-no : (d : ℕ) → 1 < d → d < p → p % d ≡ 0 → false ≡ prime p
  unfolding prime divisor_from_two divides
  prime-no d l m e =
      rw (trial-fall (λ d. eqb (p % d) 0) p d l m (eq-eqb (p % d) 0 e)) (sym (not_right (ltb 1 p) false refl))

  pub prime-yes : (d : ℕ) → 2 ≤ p → d ≤ p → p ≤ d → trials (λ d. eqb (p % d) 0) d ≡ true → true ≡ prime p
  unfolding prime divisor_from_two divides
  prime-yes d l a b h =
      let q : d ≡ p = omega arith in
      sym (both (ltb 1 p) (trials (λ d. eqb (p % d) 0) p) (lt-ltb 1 p l) (rw q at h))

-- m is square-free
module _ (m : ℕ) where
  pub square-no : (d : ℕ) → 1 < d → d ≤ m → m % (d * d) ≡ 0 → false ≡ square_free m
  unfolding square_free square_from_two divides
  square-no d l a e = sym (trial-fall (λ d. eqb (m % (d * d)) 0) (suc m) d l (omega arith) (eq-eqb (m % (d * d)) 0 e))

  pub square-yes : (d : ℕ) → m < d → d ≤ m + 1 → trials (λ d. eqb (m % (d * d)) 0) d ≡ true → true ≡ square_free m
  unfolding square_free square_from_two divides
  square-yes d a b h = let q : d ≡ suc m = omega arith in sym (rw q at h)

-- a square of a number up to 64
pub square-fits : (d : ℕ) → d ≤ 64 → d * d ≤ 4096
square-fits d h = mul-le-mul h h

pub square-pos : (d : ℕ) → 1 < d → 0 < d * d
square-pos d h = mul-le-mul {n₁ = 1} {m₁ = 1} {n₂ = d} {m₂ = d} (omega arith) (omega arith)
