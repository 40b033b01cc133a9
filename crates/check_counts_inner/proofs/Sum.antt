-- Counting an exact sum down: after i of the numbers, `left` is n less those passed, said without a subtraction as
-- `sum_of cs + left ≡ n + sum_of (drop i cs)`. In order: one number more, the end, and a number too large.
use Rattle.words.proofs.Plain.{ℕ, ◌+◌, ◌<◌, ◌≤◌, ◌-◌, add-one, arith, ◌≡◌, List, length, get_or, drop, drop_of_length-le, drop-cons}
use Rattle.words.proofs.Plain.{eqb, eqb-true, eq-eqb}
use Rattle.words.proofs.Split.{passes, fails, test, clash}
use Rattle.words.specs.Sum.{sum_of}
use Rattle.check_counts_inner.specs.Told.{Told}

-- the sum from place i on is the number at i and the sum after it
pub sum-at : (cs : List ℕ) (i : ℕ) → i < length cs → sum_of (drop i cs) ≡ get_or cs i 0 + sum_of (drop (i + 1) cs)
unfolding sum_of
sum-at cs i h = rw (add-one i, drop-cons cs i 0 h)

module _ (cs : List ℕ) (n i left : ℕ) (inv : sum_of cs + left ≡ n + sum_of (drop i cs)) where
  -- one number more
  pub sum-on : i < length cs → get_or cs i 0 ≤ left → sum_of cs + (left - get_or cs i 0) ≡ n + sum_of (drop (i + 1) cs)
  sum-on h l = omega (arith, sum-at cs i h)

  -- a number larger than what is left: the sum is not n
  pub sum_over : i < length cs → left < get_or cs i 0 → sum_of cs ≡ n → ⊥
  sum_over h l e = omega (arith, sum-at cs i h)

  -- at the end nothing is left exactly where the sum is n
  pub sum-end : length cs ≤ i → sum_of cs + left ≡ n
  unfolding sum_of
  sum-end h = let z = rw (drop_of_length-le cs h) at inv in omega arith

-- the answer whether a number is another, told of a fact that holds exactly where it is
pub told-equal : (x y : ℕ) (P : Type 0) → (x ≡ y → P) → (P → x ≡ y) → Told (eqb x y) P
told-equal x y P f g = elim (test (eqb x y)) [ passes e ↦ rw e (f (eqb-true x y e)) | fails e ↦ rw e (λ p. clash (eqb x y) (eq-eqb x y (g p)) e) ]
