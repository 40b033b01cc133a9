-- Laws of `sum_to` (specs/Divisors).
--     sum-cong, sum-zero, sum-const, sum_one    sums of equal, absent, constant values, and of a value at one place only
--     sum-add, sum-scale, sum-swap              sums of sums, of multiples, and a double sum in the other order
--     sum-append, sum-wider                     a sum in two parts, and a sum with nothing past m
--     scale-when                                a multiple of a value under a test
use Rattle.words.proofs.Plain.{ℕ, zero, suc, ◌+◌, ◌-◌, ◌*◌, ◌<◌, ◌≤◌, arith, ◌≡◌, refl, sym, ap, ◌∙◌, Bool, true, false}
use native.Mathlib.Nat.{mul-zero, mul-add, suc-mul, zero-mul, add-zero, add-suc}
use Rattle.words.proofs.Split.{lt, eq, gt, tri}
use Rattle.how_many_number_spec.specs.Divisors.{when, sum_to}

-- equal values have equal sums
pub sum-cong : (n : ℕ) (f g : ℕ → ℕ) → ((i : ℕ) → 0 < i → i ≤ n → f i ≡ g i) → sum_to n f ≡ sum_to n g
unfolding sum_to
sum-cong zero f g h = refl
sum-cong (suc n) f g h = omega (arith, sum-cong n f g (λ i p l. h i p (omega arith)), h (suc n) (omega arith) (omega arith))

-- a sum of nothing is nothing
pub sum-zero : (n : ℕ) (f : ℕ → ℕ) → ((i : ℕ) → 0 < i → i ≤ n → f i ≡ 0) → sum_to n f ≡ 0
unfolding sum_to
sum-zero zero f h = refl
sum-zero (suc n) f h = omega (arith, sum-zero n f (λ i p l. h i p (omega arith)), h (suc n) (omega arith) (omega arith))

-- a sum of one value n times
pub sum-const : (n c : ℕ) → sum_to n (λ i. c) ≡ n * c
unfolding sum_to
sum-const zero c = sym (zero-mul c)
sum-const (suc n) c = omega (arith, sum-const n c, suc-mul n c)

-- a sum with a value at one place only is that value
pub sum_one : (n : ℕ) (f : ℕ → ℕ) (a : ℕ) → 0 < a → a ≤ n → ((i : ℕ) → 0 < i → i ≤ n → (a ≡ i → ⊥) → f i ≡ 0) → sum_to n f ≡ f a
unfolding sum_to
sum_one zero f a p l h = absurd (omega arith)
sum_one (suc n) f a p l h =
    elim (tri a (suc n)) [
      | lt e ↦ omega (arith, sum_one n f a p (omega arith) (λ i q m ne. h i q (omega arith) ne), h (suc n) (omega arith) (omega arith) (λ q. omega arith))
      | eq e ↦ omega (arith, sum-zero n f (λ i q m. h i q (omega arith) (λ y. omega arith)), ap f e)
      | gt e ↦ absurd (omega arith)
    ]

-- the sum of sums is the sum of the sums
pub sum-add : (n : ℕ) (f g : ℕ → ℕ) → sum_to n (λ i. f i + g i) ≡ sum_to n f + sum_to n g
unfolding sum_to
sum-add zero f g = refl
sum-add (suc n) f g = omega (arith, sum-add n f g)

-- the sum of multiples is the multiple of the sum
pub sum-scale : (n c : ℕ) (f : ℕ → ℕ) → sum_to n (λ i. c * f i) ≡ c * sum_to n f
unfolding sum_to
sum-scale zero c f = sym (mul-zero c)
sum-scale (suc n) c f = omega (arith, sum-scale n c f, mul-add c (sum_to n f) (f (suc n)))

-- a double sum in the other order
pub sum-swap : (m n : ℕ) (f : ℕ → ℕ → ℕ) → sum_to m (λ i. sum_to n (λ j. f i j)) ≡ sum_to n (λ j. sum_to m (λ i. f i j))
unfolding sum_to
sum-swap zero n f = sym (sum-zero n (λ j. 0) (λ i p l. refl))
sum-swap (suc m) n f = omega (arith, sum-swap m n f, sum-add n (λ j. sum_to m (λ i. f i j)) (λ j. f (suc m) j))

-- a sum in two parts
pub sum-append : (m n : ℕ) (f : ℕ → ℕ) → sum_to (m + n) f ≡ sum_to m f + sum_to n (λ i. f (m + i))
unfolding sum_to
sum-append m zero f = rw (add-zero m) (omega arith)
sum-append m (suc n) f = rw (add-suc m n) (omega (arith, sum-append m n f))

-- a sum with nothing past m
pub sum-wider : (m n : ℕ) (f : ℕ → ℕ) → m ≤ n → ((i : ℕ) → m < i → i ≤ n → f i ≡ 0) → sum_to n f ≡ sum_to m f
sum-wider m n f l h =
    let e : n ≡ m + (n - m) = omega arith in
    ap (λ (x : ℕ). sum_to x f) e
    ∙ omega (arith, sum-append m (n - m) f, sum-zero (n - m) (λ i. f (m + i)) (λ i p b. h (m + i) (omega arith) (omega arith)))

-- a multiple of a value under a test
pub scale-when : (c : ℕ) (b : Bool) (x : ℕ) → c * when b x ≡ when b (c * x)
scale-when c true x = refl
scale-when c false x = mul-zero c
