-- What passes a test.
--     kept f ws          the words of the list ws that pass the test f, in order
--     count_below n f     how many of the numbers below n pass the test f
-- How many words of a list pass is `count` of words/Readings. What is kept of a list, and that it stays in order: proofs/Kept.
use Rattle.std.specs.Prelude.{ℕ, zero, suc, ◌+◌, Bool, true, false, List, [], ◌∷◌}
use Rattle.words.specs.Readings.{bit}

-- the words of the list that pass
unfoldable pub kept : (List ℕ → Bool) → List (List ℕ) → List (List ℕ)
kept f [] = []
kept f (w ∷ ws) = elim (f w) [ true ↦ w ∷ kept f ws | false ↦ kept f ws ]

-- how many of the numbers below n pass
unfoldable pub count_below : ℕ → (ℕ → Bool) → ℕ
count_below zero f = 0
count_below (suc n) f = count_below n f + bit (f n)
