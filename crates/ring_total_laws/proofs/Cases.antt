-- Turns and small walks: one table, one claim. A row's readings are decimal numerals, as in the table of `rings`.
-- A row for a walk shows three things of the rings that it names: they are those of the full walk from the all-zero ring; each reading, in increasing
-- order, is a turn of 1 of them, the all-zero ring included; and the periods of them all add up to k ^ n.
use Rattle.words.proofs.Plain.{ℕ, ◌^◌, ◌≡◌, refl, Bool, true, false, List, [], ◌∷◌, map, replicate}
use Rattle.words.specs.{Readings.readings, Table.Hold}
use Rattle.rings.specs.{Necklace.necklace, Open.open-all}
use Rattle.rings.specs.Steps.{zeros, FullWalk, done, step}
use Rattle.rings.proofs.Cases.{ring, digits}
use Rattle.ring_total_laws.specs.{Turns.is_turn, OneRing.rings_of, OneRing.PeriodsAddUp}

-- the shapes of a row
pub data Case : Type 0 where
  -- n, two readings and whether the second is a turn of the first
  turned : ℕ → ℕ → ℕ → Bool → Case
  -- n, k and the rings that the full walk comes to after the all-zero ring
  walked : ℕ → ℕ → List ℕ → Case

-- what a row claims
unfoldable pub Holds : Case → Type 0
Holds (turned n v w b) = is_turn (ring n v) (ring n w) ≡ b
Holds (walked n k vs) =
    ((m : ℕ) × FullWalk necklace k (zeros n) (map (ring n) vs) m)
    × (map (λ w. rings_of w (zeros n) (map (ring n) vs)) (readings n k) ≡ replicate (k ^ n) 1)
    × PeriodsAddUp n k (zeros n) (map (ring n) vs)

unfoldable pub table : List Case
table =
    turned 3 011 011 true ∷
    turned 3 011 101 true ∷
    turned 3 011 001 false ∷
    turned 4 0101 1010 true ∷
    walked 1 2 (1 ∷ []) ∷
    walked 1 4 (1 ∷ 2 ∷ 3 ∷ []) ∷
    walked 2 3 (01 ∷ 02 ∷ 11 ∷ 12 ∷ 22 ∷ []) ∷
    walked 4 2 (0001 ∷ 0011 ∷ 0101 ∷ 0111 ∷ 1111 ∷ []) ∷
    []

-- the one claim
pub cases : Hold Holds table
unfolding digits ring is_turn Holds Hold table open-all
cases = (
  refl,
  (
    refl,
    (
      refl,
      (
        refl,
        (
          ((_, step refl (done refl)), refl, refl),
          (
            ((_, step refl (step refl (step refl (done refl)))), refl, refl),
            (
              ((_, step refl (step refl (step refl (step refl (step refl (done refl)))))), refl, refl),
              (((_, step refl (step refl (step refl (step refl (step refl (done refl)))))), refl, refl), tt),
            ),
          ),
        ),
      ),
    ),
  ),
)
