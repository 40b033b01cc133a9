-- Totals over lists of readings, beyond those of `words` (proofs/Count) and `ring_total_laws` (proofs/Totals).
--     total-scale    totals of multiples
--     total-to       a total of sums over the numbers 1 to m is the sum of the totals
--     total-one      the total of values at one reading only
--     count-pair     readings that stand for one another are as many
use Rattle.words.proofs.Plain.{ℕ, zero, suc, ◌*◌, arith, ◌≡◌, sym, ap, ◌∙◌, Bool, true, false, ◌&&◌, List, [], ◌∷◌}
use native.Mathlib.Nat.{mul-zero, mul-one, mul-add}
use Rattle.words.specs.Order.{same}
use Rattle.words.specs.Readings.{Reading, readings, bit, total, count}
use Rattle.words.proofs.Split.{passes, fails, test, both, both_left, both_right, agree}
use Rattle.words.proofs.{Lex.same_true, Lex.true_same, Readings.readings-all}
use Rattle.words.proofs.Count.{total-cong, total-add, count-one, count-cong}
use Rattle.ring_total_laws.proofs.Totals.{total-nothing, total-swap}
use Rattle.how_many_number_spec.specs.Divisors.{when, sum_to}

-- the total of multiples is the multiple of the total
pub total-scale : (c : ℕ) (f : List ℕ → ℕ) (ws : List (List ℕ)) → total (λ w. c * f w) ws ≡ c * total f ws
unfolding total
total-scale c f [] = sym (mul-zero c)
total-scale c f (w ∷ ws) = omega (arith, total-scale c f ws, mul-add c (f w) (total f ws))

-- a total of sums over the numbers 1 to m is the sum of the totals
pub total-to : (m : ℕ) (f : ℕ → List ℕ → ℕ) (ws : List (List ℕ)) → total (λ w. sum_to m (λ i. f i w)) ws ≡ sum_to m (λ i. total (λ w. f i w) ws)
unfolding sum_to
total-to zero f ws = total-nothing ws
total-to (suc m) f ws = omega (arith, total-to m f ws, total-add (λ w. sum_to m (λ i. f i w)) (λ w. f (suc m) w) ws)

-- the total of values at one reading only
pub total-one : (n k c : ℕ) (v : List ℕ) → Reading n k v → total (λ u. when (same v u) c) (readings n k) ≡ c
total-one n k c v r =
    total-cong (λ u. when (same v u) c) (λ u. c * bit (same v u)) (readings n k) (λ u q. at (same v u)) (readings-all n k)
    ∙ total-scale c (λ u. bit (same v u)) (readings n k)
    ∙ ap (λ (x : ℕ). c * x) (count-one n k v r)
    ∙ mul-one c
  where
    at : (b : Bool) → when b c ≡ c * bit b
    at true = sym (mul-one c)
    at false = sym (mul-zero c)

-- ---- readings that stand for one another

-- each that passes counts once, at what it stands for
spread : (n m k : ℕ) (f : List ℕ → Bool) (to : List ℕ → List ℕ) → ((w : List ℕ) → Reading n k w → f w ≡ true → Reading m k (to w)) →
    count f (readings n k) ≡ total (λ w. count (λ u. f w && same (to w) u) (readings m k)) (readings n k)
spread n m k f to h = total-cong (λ w. bit (f w)) (λ w. count (λ u. f w && same (to w) u) (readings m k)) (readings n k) at (readings-all n k)
  where
    at : (w : List ℕ) → Reading n k w → bit (f w) ≡ count (λ u. f w && same (to w) u) (readings m k)
    at w r = elim (test (f w)) [ passes e ↦ rw e (sym (count-one m k (to w) (h w r e))) | fails e ↦ rw e (sym (total-nothing (readings m k))) ]

-- readings that stand for one another are as many
pub count-pair : (n m k : ℕ) (f g : List ℕ → Bool) (to back : List ℕ → List ℕ) →
    ((w : List ℕ) → Reading n k w → f w ≡ true → Reading m k (to w) × (g (to w) ≡ true) × (back (to w) ≡ w)) →
    ((u : List ℕ) → Reading m k u → g u ≡ true → Reading n k (back u) × (f (back u) ≡ true) × (to (back u) ≡ u)) →
    count f (readings n k) ≡ count g (readings m k)
count-pair n m k f g to back there here =
    spread n m k f to (λ w r e. (there w r e).0)
    ∙ total-swap (λ w u. bit (f w && same (to w) u)) (readings n k) (readings m k)
    ∙ total-cong (λ u. count (λ w. f w && same (to w) u) (readings n k)) (λ u. count (λ w. g u && same (back u) w) (readings n k)) (readings m k) alike (readings-all m k)
    ∙ sym (spread m n k g back (λ u r e. (here u r e).0))
  where
    pairs : (w u : List ℕ) → Reading n k w → Reading m k u → (f w && same (to w) u) ≡ (g u && same (back u) w)
    pairs w u r q =
        agree (f w && same (to w) u) (g u && same (back u) w) (λ h.
        let a = both_left (f w) (same (to w) u) h in
        let b = same_true (to w) u (both_right (f w) (same (to w) u) h) in
        both (g u) (same (back u) w) (rw (← b) (there w r a).1) (true_same (back u) w (rw (← b) (there w r a).2))) (λ h.
        let a = both_left (g u) (same (back u) w) h in
        let b = same_true (back u) w (both_right (g u) (same (back u) w) h) in
        both (f w) (same (to w) u) (rw (← b) (here u q a).1) (true_same (to w) u (rw (← b) (here u q a).2)))

    alike : (u : List ℕ) → Reading m k u → count (λ w. f w && same (to w) u) (readings n k) ≡ count (λ w. g u && same (back u) w) (readings n k)
    alike u q = count-cong (λ w. f w && same (to w) u) (λ w. g u && same (back u) w) (readings n k) (λ w r. pairs w u r q) (readings-all n k)
