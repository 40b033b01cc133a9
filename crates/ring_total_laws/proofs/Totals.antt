-- Totals over lists of readings, and how many readings there are.
--     below-const, total-nothing    sums of one value, totals of nothing
--     total-swap, total-below       double totals in the other order
--     readings-size                 there are k ^ n readings of n sectors and k shades
-- Totals of equal, added and absent values: `words`, proofs/Count.
use Rattle.words.proofs.Plain.{ℕ, zero, suc, ◌*◌, ◌^◌, arith, ◌≡◌, refl, sym, ap, ◌∙◌, true, List, [], ◌∷◌}
use native.Mathlib.Nat.{suc-mul, zero-mul, pow-zero, pow-succ'}
use Rattle.words.specs.Readings.{readings, total, count}
use Rattle.words.proofs.Count.{sum_below, total-cons, total-add}

-- the sum of one value k times
pub below-const : (k c : ℕ) → sum_below k (λ b. c) ≡ k * c
unfolding sum_below
below-const zero c = sym (zero-mul c)
below-const (suc k) c = omega (arith, below-const k c, suc-mul k c)

-- a total of nothing
pub total-nothing : (ws : List (List ℕ)) → total (λ w. 0) ws ≡ 0
unfolding total
total-nothing [] = refl
total-nothing (w ∷ ws) = omega (arith, total-nothing ws)

-- a double total in the other order
pub total-swap : (f : List ℕ → List ℕ → ℕ) (vs ws : List (List ℕ)) → total (λ v. total (λ w. f v w) ws) vs ≡ total (λ w. total (λ v. f v w) vs) ws
unfolding total
total-swap f [] ws = sym (total-nothing ws)
total-swap f (v ∷ vs) ws = omega (arith, total-swap f vs ws, total-add (λ w. f v w) (λ w. total (λ u. f u w) vs) ws)

-- a total of sums over the numbers below m is the sum of the totals
pub total-below : (m : ℕ) (f : ℕ → List ℕ → ℕ) (ws : List (List ℕ)) → total (λ w. sum_below m (λ i. f i w)) ws ≡ sum_below m (λ i. total (λ w. f i w) ws)
unfolding sum_below
total-below zero f ws = total-nothing ws
total-below (suc m) f ws = omega (arith, total-below m f ws, total-add (λ w. sum_below m (λ i. f i w)) (λ w. f m w) ws)

-- there are k ^ n readings of n sectors and k shades
pub readings-size : (n k : ℕ) → count (λ w. true) (readings n k) ≡ k ^ n
unfolding readings total
readings-size zero k = sym (pow-zero k)
readings-size (suc n) k =
    total-cons n k (λ w. 1) ∙ below-const k (count (λ w. true) (readings n k)) ∙ ap (λ (x : ℕ). k * x) (readings-size n k) ∙ sym (pow-succ' k n)
