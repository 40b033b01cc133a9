-- Laws of `total` and `count` of specs/Readings.
--     sum_below k f                                     the sum of f over the numbers below k
--     sum-cong, sum-add, sum-zero, sum_one             its laws
--     total-append, total-map, total-fan               totals over joined, mapped and fanned lists
--     total-cong, total-zero, total-le, total-add      totals of equal, absent, smaller and added values
--     count-cong, count-zero, count-le, count-split    the same of counts: a test that splits in two counts as the two together
--     count-one                                        each reading is in the list of all readings exactly once
--     total-cons, total-snoc                           readings with one sector more, at the front and at the end
use Rattle.words.proofs.Plain.{ℕ, zero, suc, ◌+◌, ◌<◌, ◌≤◌, arith, ◌≡◌, refl, sym, ap, ◌∙◌, Bool, true, false, List, [], ◌∷◌, ◌++◌, map, eq-eqb, ne_eqb}
use Rattle.words.specs.Order.{same}
use Rattle.words.specs.Readings.{Reading, fan, readings, bit, total, count}
use Rattle.words.proofs.Split.{passes, fails, test, lt, eq, gt, tri}
use Rattle.words.proofs.Readings.{All, nothing, also, reading-rest, readings-all}

-- the sum of f over the numbers below k
unfoldable pub sum_below : ℕ → (ℕ → ℕ) → ℕ
sum_below zero f = 0
sum_below (suc k) f = sum_below k f + f k

-- ---- sums

-- equal values have equal sums
pub sum-cong : (k : ℕ) (f g : ℕ → ℕ) → ((b : ℕ) → b < k → f b ≡ g b) → sum_below k f ≡ sum_below k g
unfolding sum_below
sum-cong zero f g h = refl
sum-cong (suc k) f g h = omega (arith, sum-cong k f g (λ b l. h b (omega arith)), h k (omega arith))

-- the sum of sums is the sum of the sums
pub sum-add : (k : ℕ) (f g : ℕ → ℕ) → sum_below k (λ b. f b + g b) ≡ sum_below k f + sum_below k g
unfolding sum_below
sum-add zero f g = refl
sum-add (suc k) f g = omega (arith, sum-add k f g)

-- a sum of nothing is nothing
pub sum-zero : (k : ℕ) (f : ℕ → ℕ) → ((b : ℕ) → b < k → f b ≡ 0) → sum_below k f ≡ 0
unfolding sum_below
sum-zero zero f h = refl
sum-zero (suc k) f h = omega (arith, sum-zero k f (λ b l. h b (omega arith)), h k (omega arith))

-- a sum with a value at one place only is that value
pub sum_one : (k : ℕ) (f : ℕ → ℕ) (a : ℕ) → a < k → ((b : ℕ) → b < k → (a ≡ b → ⊥) → f b ≡ 0) → sum_below k f ≡ f a
unfolding sum_below
sum_one zero f a l h = absurd (omega arith)
sum_one (suc k) f a l h =
    elim (tri a k) [
      | lt e ↦ omega (arith, sum_one k f a e (λ b m n. h b (omega arith) n), h k (omega arith) (λ q. omega arith))
      | eq e ↦ omega (arith, sum-zero k f (λ b m. h b (omega arith) (λ q. omega arith)), ap f e)
      | gt e ↦ absurd (omega arith)
    ]

-- ---- totals over lists that are put together

-- the total over joined lists
pub total-append : (f : List ℕ → ℕ) (vs ws : List (List ℕ)) → total f (vs ++ ws) ≡ total f vs + total f ws
unfolding total
total-append f [] ws = omega arith
total-append f (v ∷ vs) ws = omega (arith, total-append f vs ws)

-- the total over a mapped list
pub total-map : (f : List ℕ → ℕ) (g : List ℕ → List ℕ) (ws : List (List ℕ)) → total f (map g ws) ≡ total (λ w. f (g w)) ws
unfolding total
total-map f g [] = refl
total-map f g (w ∷ ws) = omega (arith, total-map f g ws)

-- the total over a fan
pub total-fan : (f : List ℕ → ℕ) (d : ℕ) (ws : List (List ℕ)) → total f (fan d ws) ≡ sum_below d (λ b. total (λ w. f (b ∷ w)) ws)
unfolding fan sum_below total
total-fan f zero ws = refl
total-fan f (suc d) ws = omega (arith, total-append f (fan d ws) (map (λ w. d ∷ w) ws), total-map f (λ w. d ∷ w) ws, total-fan f d ws)

-- ---- totals of values that are put together

-- equal values have equal totals
pub total-cong : {P : List ℕ → Type 0} (f g : List ℕ → ℕ) (ws : List (List ℕ)) → ((w : List ℕ) → P w → f w ≡ g w) → All P ws → total f ws ≡ total g ws
unfolding total
total-cong f g [] h nothing = refl
total-cong f g (w ∷ ws) h (also p a) = omega (arith, h w p, total-cong f g ws h a)

-- a total of nothing is nothing
pub total-zero : {P : List ℕ → Type 0} (f : List ℕ → ℕ) (ws : List (List ℕ)) → ((w : List ℕ) → P w → f w ≡ 0) → All P ws → total f ws ≡ 0
unfolding total
total-zero f [] h nothing = refl
total-zero f (w ∷ ws) h (also p a) = omega (arith, h w p, total-zero f ws h a)

-- values not greater have a total not greater
pub total-le : {P : List ℕ → Type 0} (f g : List ℕ → ℕ) (ws : List (List ℕ)) → ((w : List ℕ) → P w → f w ≤ g w) → All P ws → total f ws ≤ total g ws
unfolding total
total-le f g [] h nothing = omega arith
total-le f g (w ∷ ws) h (also p a) = omega (arith, h w p, total-le f g ws h a)

-- the total of sums is the sum of the totals
pub total-add : (f g : List ℕ → ℕ) (ws : List (List ℕ)) → total (λ w. f w + g w) ws ≡ total f ws + total g ws
unfolding total
total-add f g [] = refl
total-add f g (w ∷ ws) = omega (arith, total-add f g ws)

-- ---- counts

-- tests that agree count the same
pub count-cong : {P : List ℕ → Type 0} (f g : List ℕ → Bool) (ws : List (List ℕ)) → ((w : List ℕ) → P w → f w ≡ g w) → All P ws → count f ws ≡ count g ws
count-cong f g ws h a = total-cong (λ w. bit (f w)) (λ w. bit (g w)) ws (λ w p. ap bit (h w p)) a

-- a test that none passes counts 0
pub count-zero : {P : List ℕ → Type 0} (f : List ℕ → Bool) (ws : List (List ℕ)) → ((w : List ℕ) → P w → f w ≡ false) → All P ws → count f ws ≡ 0
count-zero f ws h a = total-zero (λ w. bit (f w)) ws (λ w p. ap bit (h w p)) a

-- a test that implies another counts no more than it
pub count-le : {P : List ℕ → Type 0} (f g : List ℕ → Bool) (ws : List (List ℕ)) → ((w : List ℕ) → P w → f w ≡ true → g w ≡ true) → All P ws → count f ws ≤ count g ws
count-le {P} f g ws h a = total-le (λ w. bit (f w)) (λ w. bit (g w)) ws at_most a
  where
    at_most : (w : List ℕ) → P w → bit (f w) ≤ bit (g w)
    at_most w p = elim (test (f w)) [ passes e ↦ rw (e, h w p e) (omega arith) | fails e ↦ rw e (omega arith) ]

-- a test that splits in two counts as the two together
pub count-split : {P : List ℕ → Type 0} (f g h : List ℕ → Bool) (ws : List (List ℕ)) → ((w : List ℕ) → P w → bit (f w) ≡ bit (g w) + bit (h w)) → All P ws → count f ws ≡ count g ws + count h ws
count-split f g h ws s a =
    total-cong (λ w. bit (f w)) (λ w. bit (g w) + bit (h w)) ws s a ∙ total-add (λ w. bit (g w)) (λ w. bit (h w)) ws

-- ---- the list of all readings

-- the total over readings with one sector more, by the first sector
pub total-cons : (n k : ℕ) (f : List ℕ → ℕ) → total f (readings (suc n) k) ≡ sum_below k (λ b. total (λ w. f (b ∷ w)) (readings n k))
unfolding readings
total-cons n k f = total-fan f k (readings n k)

-- each reading is in the list of all readings exactly once
pub count-one : (n k : ℕ) (s : List ℕ) → Reading n k s → count (same s) (readings n k) ≡ 1
unfolding readings same total
count-one zero k [] r = refl
count-one zero k (a ∷ s) r = absurd (omega (arith, r.long))
count-one (suc n) k [] r = absurd (omega (arith, r.long))
count-one (suc n) k (a ∷ s) r =
    total-cons n k (λ w. bit (same (a ∷ s) w)) ∙ sum_one k behind a (r.shades 0 (omega arith)) elsewhere ∙ here ∙ count-one n k s (reading-rest n k a s r)
  where
    behind : ℕ → ℕ
    behind b = count (λ w. same (a ∷ s) (b ∷ w)) (readings n k)

    elsewhere : (b : ℕ) → b < k → (a ≡ b → ⊥) → behind b ≡ 0
    elsewhere b l h = count-zero (λ w. same (a ∷ s) (b ∷ w)) (readings n k) (λ w p. rw (ne_eqb a b h)) (readings-all n k)

    here : behind a ≡ count (same s) (readings n k)
    here = count-cong (λ w. same (a ∷ s) (a ∷ w)) (same s) (readings n k) (λ w p. rw (eq-eqb a a refl)) (readings-all n k)

-- the total over readings with one sector more, by the last sector
pub total-snoc : (n k : ℕ) (f : List ℕ → ℕ) → total f (readings (suc n) k) ≡ total (λ w. sum_below k (λ b. f (w ++ (b ∷ [])))) (readings n k)
unfolding readings total
total-snoc zero k f =
    total-cons 0 k f ∙ omega (arith, sum-cong k (λ b. f (b ∷ []) + 0) (λ b. f (b ∷ [])) (λ b l. omega arith))
total-snoc (suc n) k f =
    total-cons (suc n) k f ∙ sum-cong k (λ a. total (λ w. f (a ∷ w)) (readings (suc n) k)) (λ a. total (λ w. ends (a ∷ w)) (readings n k))
    (λ a l. total-snoc n k (λ w. f (a ∷ w))) ∙ sym (total-cons n k ends)
  where
    ends : List ℕ → ℕ
    ends w = sum_below k (λ b. f (w ++ (b ∷ [])))
