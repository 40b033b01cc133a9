-- Every reading has one ring (02, request n): its two sentences, of the ring that a walk starts from and the rings that it comes to after it.
--     rings_of w first rings           of how many of these rings w is a turn
--     OneRingEach n k first rings     each reading of n and k is a turn of exactly one of them
--     PeriodsAddUp n k first rings    their periods add up to k to the power n
-- No walk comes to its own start, so the first ring is named beside the others and counts with them. That both sentences hold of the full walk by
-- necklaces from the all-zero ring: proofs/OneRing. That they hold of what the calls hand out: `walk_laws`.
use Rattle.std.specs.Prelude.{ℕ, ◌^◌, ◌≡◌, List, ◌∷◌}
use Rattle.words.specs.Readings.{Reading, total, count}
use Rattle.rings.specs.Necklace.{period}
use Rattle.ring_total_laws.specs.Turns.{is_turn}

-- of how many rings w is a turn
abbrev pub rings_of : List ℕ → List ℕ → List (List ℕ) → ℕ
rings_of w first rings = count (λ v. is_turn v w) (first ∷ rings)

-- each reading of n and k is a turn of exactly one of the rings
abbrev pub OneRingEach : ℕ → ℕ → List ℕ → List (List ℕ) → Type 0
OneRingEach n k first rings = (w : List ℕ) → Reading n k w → rings_of w first rings ≡ 1

-- the periods of the rings add up to k to the power n
abbrev pub PeriodsAddUp : ℕ → ℕ → List ℕ → List (List ℕ) → Type 0
PeriodsAddUp n k first rings = total period (first ∷ rings) ≡ k ^ n
