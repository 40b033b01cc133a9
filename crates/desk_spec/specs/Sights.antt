-- A reading looked for among rings that stand in words of their own, each of any length. The call takes rings that lie end to end, and could not tell where a ring ends.
--     AsLong n ts               each of the rings ts has n sectors
--     lengths_order r ts         the checks of the lengths: 1 of the reading r; 10 where some ring is not as long; `lengths-numbers`: by its numbers
--     SightedSays ts r k e a    what the answer a promises: where the rings are as long as the reading, what the call answers for them, end to end; and else the refusal
-- That no two answers fit, and that the rings which the call then looks at are the words: proofs/Sights.
use Rattle.std.specs.Prelude.{ℕ, ◌<◌, ◌≡◌, refl, List, [], ◌∷◌, length, get_or, Result, Err}
use Rattle.words.specs.Readings.{Sized}
use Rattle.refusal.specs.declared.Refusal.{Refusal}
use Rattle.refusal.specs.declared.Refusal.TheVariants.{Length, Pair}
use Rattle.refusal.specs.Order.{Checks, fact, ◌▸◌, Given, numbered}
use Rattle.strip_spec.specs.Strip.{joined}
use Rattle.sight_spec.specs.declared.Sighting.{Sighting}
use Rattle.sight_spec.specs.Says.{SightSays}

-- each has n sectors
abbrev pub AsLong : ℕ → List (List ℕ) → Type 0
AsLong n ts = (j : ℕ) → j < length ts → length (get_or ts j []) ≡ n

-- the order 1, 10
abbrev pub lengths_order : List ℕ → List (List ℕ) → Checks
lengths_order r ts = fact (Sized (length r)) (Length 0) ▸ fact (AsLong (length r) ts) Pair

pub lengths-numbers : (r : List ℕ) (ts : List (List ℕ)) → numbered (lengths_order r ts) ≡ (1 ∷ 10 ∷ [])
lengths-numbers r ts = refl

-- as the call answers, where each ring is as long as the reading
pub data SightedSays (ts : List (List ℕ)) (r : List ℕ) (k e : ℕ) (a : Result Sighting Refusal) : Type 0 where
  alike : AsLong (length r) ts → SightSays (joined ts) r k e a → SightedSays ts r k e a
  unlike : (AsLong (length r) ts → ⊥) → (q : Refusal) → Given (lengths_order r ts) q → a ≡ Err q → SightedSays ts r k e a
