-- The greedy choice: it goes through Lyndon words in order and takes each that may join those taken, until it has enough or there are none left. What may join is a
-- test; in 02, 'g', it is: what is at least d apart from all taken.
--     May                            a test: may the word join those taken?
--     greedy_by may left taken ws     the choice from ws, where `taken` are taken and `left` more are wanted: all that are taken then, in the order taken
--     looked_by may left taken ws     the words of ws that the choice looks at
--     offered_by may taken w          what is taken after the word w was offered
--     far_from d t w                  w is at least d apart from t
--     clear d taken w                w is at least d apart from all taken: the test of 02, 'g'
--     greedy, looked, offered d ..   the choice by that test
--     kept f ws                      the words of the list that pass, in order: Passing of `word_list_spec`, passed on
--     lyndons n k                    the Lyndon words of n and k in increasing order
--     picked n k d want              the set
--     looked_at n k d want            the Lyndon words that were looked at for it
-- What it is worth: Worth. Another test: `guard_spec`.
use Rattle.std.specs.Prelude.{ℕ, zero, suc, Bool, true, false, not, List, [], ◌∷◌, ◌++◌, length, get_or, ltb}
use Rattle.words.specs.Search.{all_below}
use Rattle.words.specs.Readings.{readings}
unfoldable pub use Rattle.word_list_spec.specs.Passing.{kept}
use Rattle.rings.specs.Necklace.{lyndon}
use Rattle.rings.specs.Alike.{apart}

-- ---- by any test

-- may the word join those taken?
abbrev pub May : Type 0
May = List (List ℕ) → List ℕ → Bool

-- the choice from ws
unfoldable pub greedy_by : May → ℕ → List (List ℕ) → List (List ℕ) → List (List ℕ)
greedy_by may zero taken ws = taken
greedy_by may (suc left) taken [] = taken
greedy_by may (suc left) taken (w ∷ ws) = elim (may taken w) [ true ↦ greedy_by may left (taken ++ (w ∷ [])) ws | false ↦ greedy_by may (suc left) taken ws ]

-- the words that it looks at: it stops where it has enough
unfoldable pub looked_by : May → ℕ → List (List ℕ) → List (List ℕ) → List (List ℕ)
looked_by may zero taken ws = []
looked_by may (suc left) taken [] = []
looked_by may (suc left) taken (w ∷ ws) = w ∷ elim (may taken w) [ true ↦ looked_by may left (taken ++ (w ∷ [])) ws | false ↦ looked_by may (suc left) taken ws ]

-- the set after the word w was offered
unfoldable pub offered_by : May → List (List ℕ) → List ℕ → List (List ℕ)
offered_by may taken w = elim (may taken w) [ true ↦ taken ++ (w ∷ []) | false ↦ taken ]

-- ---- at least d apart

-- w is at least d apart from t
unfoldable pub far_from : ℕ → List ℕ → List ℕ → Bool
far_from d t w = not (ltb (apart t w) d)

-- w is at least d apart from all taken
unfoldable pub clear : ℕ → List (List ℕ) → List ℕ → Bool
clear d taken w = all_below (length taken) (λ j. far_from d (get_or taken j []) w)

-- the choice from ws
abbrev pub greedy : ℕ → ℕ → List (List ℕ) → List (List ℕ) → List (List ℕ)
greedy d = greedy_by (clear d)

-- the words that it looks at
abbrev pub looked : ℕ → ℕ → List (List ℕ) → List (List ℕ) → List (List ℕ)
looked d = looked_by (clear d)

-- the set after the word w was offered
abbrev pub offered : ℕ → List (List ℕ) → List ℕ → List (List ℕ)
offered d = offered_by (clear d)

-- ---- from the Lyndon words

-- the Lyndon words of n and k in increasing order
unfoldable pub lyndons : ℕ → ℕ → List (List ℕ)
lyndons n k = kept lyndon (readings n k)

-- the set
unfoldable pub picked : ℕ → ℕ → ℕ → ℕ → List (List ℕ)
picked n k d want = greedy d want [] (lyndons n k)

-- the Lyndon words that were looked at for it
unfoldable pub looked_at : ℕ → ℕ → ℕ → ℕ → List (List ℕ)
looked_at n k d want = looked d want [] (lyndons n k)
