-- Strips worked out by hand (02, request l), proved of the definitions themselves: one table, one claim. A row's words are decimal numerals with the number of
-- their sectors before them, as in the table of `rings`. The first two rows are the request's.
use Rattle.words.proofs.Plain.{ℕ, ◌^◌, ◌≡◌, refl, List, [], ◌∷◌}
use Rattle.words.specs.Table.{Hold}
use Rattle.rings.proofs.Cases.{digits, ring}
use Rattle.strip_spec.specs.Strip.{dictionary, strip_words, strip}
use Rattle.strip_spec.specs.{Places.window, Places.occurrences, Open.open-strips}

-- the shapes of a row
pub data Case : Type 0 where
  -- n, k, the strip
  laid : ℕ → ℕ → ℕ → Case
  -- n, k, the strip's words
  made_of : ℕ → ℕ → List (List ℕ) → Case
  -- n, k, the words of at most n sectors
  listed : ℕ → ℕ → List (List ℕ) → Case
  -- m, a strip of m sectors, a place of it, n, the n sectors there
  seen : ℕ → ℕ → ℕ → ℕ → ℕ → Case
  -- m, a strip of m sectors, n, a reading of n sectors, at how many places it stands
  met : ℕ → ℕ → ℕ → ℕ → ℕ → Case

-- what a row claims
unfoldable pub Holds : Case → Type 0
Holds (laid n k s) = strip n k ≡ ring (k ^ n) s
Holds (made_of n k us) = strip_words n k ≡ us
Holds (listed n k us) = dictionary n k ≡ us
Holds (seen m s p n w) = window n (ring m s) p ≡ ring n w
Holds (met m s n w c) = occurrences (ring m s) (ring n w) ≡ c

unfoldable pub table : List Case
table =
    laid 3 2 00010111 ∷
    laid 1 2 01 ∷
    laid 2 3 001021122 ∷
    -- a beginning comes first: 0 before 0001, 01 before 0111
    made_of 4 2 (ring 1 0 ∷ ring 4 0001 ∷ ring 4 0011 ∷ ring 2 01 ∷ ring 4 0111 ∷ ring 1 1 ∷ []) ∷
    -- 2 and 3 divide 6, 4 and 5 do not
    made_of 6 2
    (ring 1 0 ∷ ring 6 000001 ∷ ring 6 000011 ∷ ring 6 000101 ∷ ring 6 000111 ∷ ring 3 001 ∷ ring 6 001011 ∷ ring 6 001101 ∷ ring 6 001111 ∷ ring 2 01
    ∷ ring 6 010111 ∷ ring 3 011 ∷ ring 6 011111 ∷ ring 1 1 ∷ []) ∷
    listed 1 3 (ring 0 0 ∷ ring 1 0 ∷ ring 1 1 ∷ ring 1 2 ∷ []) ∷
    listed 2 2 (ring 0 0 ∷ ring 1 0 ∷ ring 2 00 ∷ ring 2 01 ∷ ring 1 1 ∷ ring 2 10 ∷ ring 2 11 ∷ []) ∷
    seen 8 00010111 2 3 010 ∷
    -- round the end; 1234 tells the sector there from the 0 that stands for none
    seen 8 00010111 6 3 110 ∷
    seen 4 1234 2 3 341 ∷
    met 8 00010111 3 110 1 ∷
    met 8 00010111 2 01 2 ∷
    met 4 0000 1 1 0 ∷
    []

-- the one claim
pub cases : Hold Holds table
unfolding digits ring Holds Hold table open-strips
cases = (refl, (refl, (refl, (refl, (refl, (refl, (refl, (refl, (refl, (refl, (refl, (refl, (refl, tt)))))))))))))
