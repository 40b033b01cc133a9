-- Bracelets, beginnings and small walks: one table, one claim. A row's readings are decimal numerals, as in the table of `rings`.
-- A row for a walk shows two things of the rings that it names: they are those of the full walk by bracelets from the all-zero ring; and of each reading, in
-- increasing order, the ring or its mirror image is 1 of them, the all-zero ring included.
use Rattle.words.proofs.Plain.{ℕ, ◌^◌, ◌≡◌, refl, Bool, true, false, List, [], ◌∷◌, map, replicate}
use Rattle.words.specs.{Readings.readings, Readings.count, Table.Hold}
use Rattle.rings.specs.{Alike.bracelet, Open.open-all}
use Rattle.rings.specs.Steps.{how_many, zeros, FullWalk, done, step}
use Rattle.rings.proofs.Cases.{ring, digits}
use Rattle.bracelet_laws.specs.{Pairs.of_pair, Beginnings.filled, Beginnings.tried}

-- the shapes of a row
pub data Case : Type 0 where
  -- n, k and how many bracelets there are
  many : ℕ → ℕ → ℕ → Case
  -- n, k, a beginning of so many sectors, and whether it is a bracelet when it is filled up
  begun : ℕ → ℕ → ℕ → ℕ → Bool → Case
  -- n, k, a reading, a place and a shade, and the first sectors with that shade behind them, filled up
  tries : ℕ → ℕ → ℕ → ℕ → ℕ → ℕ → Case
  -- n, k and the rings that the full walk comes to after the all-zero ring
  walked : ℕ → ℕ → List ℕ → Case

-- what a row claims
unfoldable pub Holds : Case → Type 0
Holds (many n k m) = how_many bracelet n k ≡ m
Holds (begun n k l u b) = bracelet (filled n k (ring l u)) ≡ b
Holds (tries n k w l b v) = tried k (ring n w) l b ≡ ring n v
Holds (walked n k vs) =
    ((m : ℕ) × FullWalk bracelet k (zeros n) (map (ring n) vs) m)
    × (map (λ w. count (of_pair w) (zeros n ∷ map (ring n) vs)) (readings n k) ≡ replicate (k ^ n) 1)

unfoldable pub table : List Case
table =
    many 6 2 13 ∷
    many 4 3 21 ∷
    begun 6 2 4 0010 true ∷
    begun 6 2 5 00110 false ∷
    begun 3 3 2 02 true ∷
    begun 3 3 3 021 false ∷
    tries 6 3 001011 2 1 001222 ∷
    walked 1 2 (1 ∷ []) ∷
    walked 3 3 (001 ∷ 002 ∷ 011 ∷ 012 ∷ 022 ∷ 111 ∷ 112 ∷ 122 ∷ 222 ∷ []) ∷
    walked 6 2 (000001 ∷ 000011 ∷ 000101 ∷ 000111 ∷ 001001 ∷ 001011 ∷ 001111 ∷ 010101 ∷ 010111 ∷ 011011 ∷ 011111 ∷ 111111 ∷ []) ∷
    []

-- the one claim
pub cases : Hold Holds table
unfolding digits ring of_pair filled tried Holds Hold table open-all
cases = (
  refl,
  (
    refl,
    (
      refl,
      (
        refl,
        (
          refl,
          (
            refl,
            (
              refl,
              (
                ((_, step refl (done refl)), refl),
                (
                  ((_, step refl (step refl (step refl (step refl (step refl (step refl (step refl (step refl (step refl (done refl)))))))))), refl),
                  (((_, step refl (step refl (step refl (step refl (step refl (step refl (step refl (step refl (step refl (step refl (step refl (step refl (done refl))))))))))))), refl), tt),
                ),
              ),
            ),
          ),
        ),
      ),
    ),
  ),
)
