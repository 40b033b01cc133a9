-- Tests of the numbers below n, and lists made of them. Document 01 says 'each', 'some', 'the smallest', 'the longest' and 'the last';
-- these are those words, as functions that compute.
--     all_below n f     f passes at each number below n
--     some_below n f    f passes at some number below n
--     least n f        the least number below n at which f passes, or n where none does
--     greatest n f     the greatest number from 1 to n at which f passes, or 0 where none does
--     tab n f          the list f 0, f 1, .., f (n - 1)
-- Their laws: proofs/Search.
use Rattle.std.specs.Prelude.{ℕ, zero, suc, Bool, true, false, ◌&&◌, ◌||◌, List, [], ◌∷◌}

-- f passes at each number below n
unfoldable pub all_below : ℕ → (ℕ → Bool) → Bool
all_below zero f = true
all_below (suc n) f = all_below n f && f n

-- f passes at some number below n
unfoldable pub some_below : ℕ → (ℕ → Bool) → Bool
some_below zero f = false
some_below (suc n) f = some_below n f || f n

-- the least number below n at which f passes, or n
unfoldable pub least : ℕ → (ℕ → Bool) → ℕ
least zero f = 0
least (suc n) f = elim (f 0) [ true ↦ 0 | false ↦ suc (least n (λ i. f (suc i))) ]

-- the greatest number from 1 to n at which f passes, or 0
unfoldable pub greatest : ℕ → (ℕ → Bool) → ℕ
greatest zero f = 0
greatest (suc n) f = elim (f (suc n)) [ true ↦ suc n | false ↦ greatest n f ]

-- the list f 0, f 1, .., f (n - 1)
unfoldable pub tab : ℕ → (ℕ → ℕ) → List ℕ
tab zero f = []
tab (suc n) f = f 0 ∷ tab n (λ i. f (suc i))
