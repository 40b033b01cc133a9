-- Steps checked by hand, computed from the definitions: one table, one claim. A row's ring is a decimal numeral with the number of its sectors before it.
-- The step from 0011 and the one from 011101111 are document 01's; the others are written out beside their rows, prenecklace after prenecklace.
use Rattle.words.proofs.Plain.{ℕ, ◌≡◌, refl, List, [], ◌∷◌}
use Rattle.words.specs.Table.{Hold}
use Rattle.rings.specs.{Necklace.necklace, Necklace.lyndon, Open.open-all}
use Rattle.rings.proofs.Cases.{digits, ring}
use Rattle.ring_ceiling_laws.specs.Ceiling.{step_moves, lyndon_ceiling, necklace_ceiling}
use Rattle.ring_ceiling_laws.specs.Notched.{notch, notched, lyndon_start, necklace_start}

-- the shapes of a row
pub data Case : Type 0 where
  -- k, n, a ring, the moves that a step to the next Lyndon word reports
  to-lyndon : ℕ → ℕ → ℕ → ℕ → Case
  -- k, n, a ring from which that step reports as many moves as the ceiling
  full-lyndon : ℕ → ℕ → ℕ → Case
  -- the same of the next necklace
  full-necklace : ℕ → ℕ → ℕ → Case
  -- n and the two ceilings
  ceilings : ℕ → ℕ → ℕ → Case
  -- k, n and the two rings from which the steps are longest
  starts : ℕ → ℕ → ℕ → ℕ → Case

-- what a row claims
unfoldable pub Holds : Case → Type 0
Holds (to-lyndon k n w m) = step_moves lyndon k (ring n w) ≡ m
Holds (full-lyndon k n w) = step_moves lyndon k (ring n w) ≡ lyndon_ceiling n
Holds (full-necklace k n w) = step_moves necklace k (ring n w) ≡ necklace_ceiling n
Holds (ceilings n a b) = (lyndon_ceiling n ≡ a) × (necklace_ceiling n ≡ b)
Holds (starts k n w v) = (lyndon_start k n ≡ ring n w) × (necklace_start k n ≡ ring n v)

unfoldable pub table : List Case
table =
    -- 0101, 0110, 0111
    full-lyndon 2 4 0011 ∷
    -- 01101, 01110, 01111
    full-lyndon 2 5 01011 ∷
    -- 1212, 1221, 1222
    full-lyndon 3 4 1122 ∷
    -- 1111 is left, and is no Lyndon word: Done
    to-lyndon 2 4 0111 1 ∷
    to-lyndon 2 4 1111 0 ∷
    -- one sector: 1
    full-lyndon 2 1 0 ∷
    -- two sectors, three shades: 11, 12
    full-lyndon 3 2 02 ∷
    -- two sectors, two shades: the ceiling is 2, and no step takes 2 moves
    to-lyndon 2 2 00 1 ∷
    to-lyndon 2 2 01 1 ∷
    to-lyndon 2 2 11 0 ∷
    full-necklace 2 9 011101111 ∷
    -- 011101, 011110, 011111
    full-necklace 2 6 011011 ∷
    ceilings 8 5 4 ∷
    ceilings 9 5 5 ∷
    starts 2 5 01011 01011 ∷
    starts 3 6 121222 122122 ∷
    []

-- the one claim
pub cases : Hold Holds table
unfolding digits ring Holds Hold table step_moves notch notched open-all
cases = (refl, (refl, (refl, (refl, (refl, (refl, (refl, (refl, (refl, (refl, (refl, (refl, ((refl, refl), ((refl, refl), ((refl, refl), ((refl, refl), tt))))))))))))))))
