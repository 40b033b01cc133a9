-- The rings that the client checked by hand (01, 'Rings to check by hand'), of the definitions themselves: one table, one claim. The last claim computes it.
-- A row's reading is a decimal numeral with the number of its sectors before it: `classed 9 001010010 (Opening 5)`. Leading zeros count.
-- The first part of the table is the page's starred cases, in its order; the second has a row for each definition that no starred case computes.
use Rattle.words.proofs.Plain.{ℕ, zero, suc, ◌/◌, ◌%◌, ◌≡◌, refl, Bool, true, false, none, some, List, [], ◌∷◌}
use Rattle.words.specs.Table.{Hold}
use Rattle.rings.specs.{declared.Class.Class, Prenecklace.prenecklace, Class.class_of, Class.look_at, Home.home, Home.shift}
use Rattle.rings.specs.declared.Class.TheVariants.{Loose, Opening, Repeating, Single}
use Rattle.rings.specs.Necklace.{necklace, lyndon, period, below_other_turns}
use Rattle.rings.specs.Alike.{even_handed, same_ring, apart, mirrored, bracelet, least_of_pair}
use Rattle.rings.specs.{Next.next_prenecklace, Counts.counted_necklace, Open.open-all}
use Rattle.rings.specs.Steps.{first_of, next_of, moves, how_many, how_many_to}

-- the n decimal digits of a numeral, in front of the sectors that follow
unfoldable pub digits : ℕ → ℕ → List ℕ → List ℕ
digits zero d w = w
digits (suc n) d w = digits n (d / 10) ((d % 10) ∷ w)

-- the reading that a numeral writes
unfoldable pub ring : ℕ → ℕ → List ℕ
unfolding digits
ring n d = digits n d []

-- the shapes of a row; k is 2 where a row does not say it
pub data Case : Type 0 where
  -- n, the reading, its class
  classed : ℕ → ℕ → Class → Case
  -- n, the reading, the sector to look at
  looked : ℕ → ℕ → ℕ → Case
  -- n, the reading, its home reading, its shift, its period
  comes_home : ℕ → ℕ → ℕ → ℕ → ℕ → Case
  -- n, the reading, the next necklace, the moves
  then-necklace : ℕ → ℕ → ℕ → ℕ → Case
  -- n, the reading, the next Lyndon word, the moves
  then-lyndon : ℕ → ℕ → ℕ → ℕ → Case
  -- n and a reading after which every step is Done, with 0 moves
  then-done : ℕ → ℕ → Case
  -- k, n, the reading, the next prenecklace as the page builds it
  page-next : ℕ → ℕ → ℕ → ℕ → Case
  -- n, a reading and whether it is even-handed
  handed : ℕ → ℕ → Bool → Case
  -- n, two readings, whether they are of the same ring, how far apart
  compared : ℕ → ℕ → ℕ → Bool → ℕ → Case
  -- n, a ring and the ring seen from the other side
  other-side : ℕ → ℕ → ℕ → Case
  -- n, a reading and whether it is the one of its mirror pair, in both forms
  of_pair : ℕ → ℕ → Bool → Case
  -- n, a reading, the next bracelet
  then-bracelet : ℕ → ℕ → ℕ → Case
  -- n, a reading and whether it is below each of its other turns
  below-turns : ℕ → ℕ → Bool → Case
  -- n, the counts, the first ring that has them
  counted-first : ℕ → List ℕ → ℕ → Case
  -- n, the counts, a reading and the next ring that has them
  counted_next : ℕ → List ℕ → ℕ → ℕ → Case
  -- n, the counts, a reading after which there is no ring that has them
  counted-done : ℕ → List ℕ → ℕ → Case
  -- k, n, how many prenecklaces, necklaces and Lyndon words there are, and how many necklaces of 1 to n sectors together
  how-many : ℕ → ℕ → ℕ → ℕ → ℕ → ℕ → Case

-- what a row claims
unfoldable pub Holds : Case → Type 0
Holds (classed n w c) = class_of (ring n w) ≡ c
Holds (looked n w p) = look_at (ring n w) ≡ p
Holds (comes_home n w h s p) = (home (ring n w) ≡ ring n h) × (shift (ring n w) ≡ s) × (period (ring n w) ≡ p)
Holds (then-necklace n w v m) = (next_of necklace 2 (ring n w) ≡ some (ring n v)) × (moves 2 (ring n w) (some (ring n v)) ≡ m)
Holds (then-lyndon n w v m) = (next_of lyndon 2 (ring n w) ≡ some (ring n v)) × (moves 2 (ring n w) (some (ring n v)) ≡ m)
Holds (then-done n w) =
    (next_of prenecklace 2 (ring n w) ≡ none) × (next_of necklace 2 (ring n w) ≡ none) × (next_of lyndon 2 (ring n w) ≡ none) × (moves 2 (ring n w) none ≡ 0)
Holds (page-next k n w v) = next_prenecklace k (ring n w) ≡ ring n v
Holds (handed n w b) = even_handed (ring n w) ≡ b
Holds (compared n v w b d) = (same_ring (ring n v) (ring n w) ≡ b) × (apart (ring n v) (ring n w) ≡ d)
Holds (other-side n w v) = mirrored (ring n w) ≡ ring n v
Holds (of_pair n w b) = (bracelet (ring n w) ≡ b) × (least_of_pair (ring n w) ≡ b)
Holds (then-bracelet n w v) = next_of bracelet 2 (ring n w) ≡ some (ring n v)
Holds (below-turns n w b) = below_other_turns (ring n w) ≡ b
Holds (counted-first n cs w) = first_of (counted_necklace cs) n (lib.ListN.length cs) ≡ some (ring n w)
Holds (counted_next n cs w v) = next_of (counted_necklace cs) (lib.ListN.length cs) (ring n w) ≡ some (ring n v)
Holds (counted-done n cs w) = next_of (counted_necklace cs) (lib.ListN.length cs) (ring n w) ≡ none
Holds (how-many k n p c l t) = (how_many prenecklace n k ≡ p) × (how_many necklace n k ≡ c) × (how_many lyndon n k ≡ l) × (how_many_to necklace n k ≡ t)

unfoldable pub table : List Case
table =
    classed 4 0001 Single ∷
    classed 4 0101 (Repeating 2) ∷
    classed 4 0110 (Opening 3) ∷
    classed 4 0100 (Loose 3) ∷
    classed 1 1 Single ∷
    classed 9 001010010 (Opening 5) ∷
    comes_home 4 1010 0101 1 2 ∷
    comes_home 6 110100 001101 4 6 ∷
    then-necklace 4 0001 0011 2 ∷
    then-necklace 9 011101111 011111111 5 ∷
    then-lyndon 4 0011 0111 3 ∷
    then-done 4 1111 ∷
    -- not starred: a row for each definition that the rows above do not compute
    classed 5 10010 (Loose 1) ∷
    classed 7 0101100 (Loose 6) ∷
    looked 4 0100 3 ∷
    looked 4 0110 0 ∷
    then-necklace 4 0011 0101 1 ∷
    page-next 3 4 0222 1111 ∷
    page-next 2 4 0011 0101 ∷
    handed 6 001011 false ∷
    handed 6 001001 true ∷
    compared 6 010101 001011 false 2 ∷
    compared 6 110100 001101 true 0 ∷
    other-side 6 001011 001101 ∷
    below-turns 4 0101 false ∷
    below-turns 4 0011 true ∷
    counted-first 6 (3 ∷ 3 ∷ []) 000111 ∷
    counted-first 2 (0 ∷ 2 ∷ 0 ∷ []) 11 ∷
    counted_next 6 (3 ∷ 3 ∷ []) 001101 010101 ∷
    counted-done 6 (3 ∷ 3 ∷ []) 010101 ∷
    of_pair 6 001011 true ∷
    of_pair 6 001101 false ∷
    of_pair 6 001111 true ∷
    of_pair 6 010110 false ∷
    then-bracelet 6 001011 001111 ∷
    -- the page's numbers of k = 3 and n = 4; of 1, 2 and 3 sectors there are 3, 6 and 11 necklaces
    how-many 3 4 32 24 18 44 ∷
    []

-- the one claim
pub cases : Hold Holds table
unfolding digits ring Holds Hold table open-all
cases = (
  refl,
  (
    refl,
    (
      refl,
      (
        refl,
        (
          refl,
          (
            refl,
            (
              (refl, refl, refl),
              (
                (refl, refl, refl),
                (
                  (refl, refl),
                  (
                    (refl, refl),
                    (
                      (refl, refl),
                      (
                        (refl, refl, refl, refl),
                        (
                          refl,
                          (
                            refl,
                            (
                              refl,
                              (
                                refl,
                                (
                                  (refl, refl),
                                  (
                                    refl,
                                    (
                                      refl,
                                      (
                                        refl,
                                        (
                                          refl,
                                          (
                                            (refl, refl),
                                            (
                                              (refl, refl),
                                              (
                                                refl,
                                                (
                                                  refl,
                                                  (
                                                    refl,
                                                    (
                                                      refl,
                                                      (
                                                        refl,
                                                        (
                                                          refl,
                                                          (
                                                            refl,
                                                            (
                                                              (refl, refl),
                                                              (
                                                                (refl, refl),
                                                                (
                                                                  (refl, refl),
                                                                  ((refl, refl), (refl, ((refl, refl, refl, refl), tt))),
                                                                ),
                                                              ),
                                                            ),
                                                          ),
                                                        ),
                                                      ),
                                                    ),
                                                  ),
                                                ),
                                              ),
                                            ),
                                          ),
                                        ),
                                      ),
                                    ),
                                  ),
                                ),
                              ),
                            ),
                          ),
                        ),
                      ),
                    ),
                  ),
                ),
              ),
            ),
          ),
        ),
      ),
    ),
  ),
)
