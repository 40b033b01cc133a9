-- What a walk over bracelets owes (02, request c), of the ring that it starts from and the rings that it comes to after it.
--     of_pair w u                        u is the ring of w, or that of its mirror image
--     OneOfEachPair n k first rings     of each ring of n and k and its mirror image exactly one is among them, exactly once
--     EvenForItself n k first rings     each even-handed ring is among them, exactly once
-- No walk comes to its own start, so the first ring is named beside the others and counts with them. That both sentences hold of the full walk by
-- bracelets from the all-zero ring, and that it is in increasing order: proofs/Pairs. That they hold of what the calls hand out: `walk_laws`.
use Rattle.std.specs.Prelude.{ℕ, ◌≡◌, Bool, true, ◌||◌, List, ◌∷◌}
use Rattle.words.specs.Order.{same}
use Rattle.words.specs.Readings.{Reading, total, count}
use Rattle.rings.specs.Home.{home}
use Rattle.rings.specs.Alike.{even_handed, mirrored}

-- u is the ring of w, or that of its mirror image
unfoldable pub of_pair : List ℕ → List ℕ → Bool
of_pair w u = same (home w) u || same (mirrored w) u

-- of the ring of each reading and its mirror image exactly one is among the rings, exactly once
abbrev pub OneOfEachPair : ℕ → ℕ → List ℕ → List (List ℕ) → Type 0
OneOfEachPair n k first rings = (w : List ℕ) → Reading n k w → count (of_pair w) (first ∷ rings) ≡ 1

-- the ring of each even-handed reading is among the rings, exactly once
abbrev pub EvenForItself : ℕ → ℕ → List ℕ → List (List ℕ) → Type 0
EvenForItself n k first rings = (w : List ℕ) → Reading n k w → even_handed w ≡ true → count (same (home w)) (first ∷ rings) ≡ 1
