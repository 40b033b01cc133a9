-- What a step from a lent reading promises, by cases on the answer: the next ring of a kind in the output, for a caller that keeps no record of a walk (01, 'Walks', 'Refusal
-- numbers'; 02, request c). w is the reading, b what the output held before and c what it holds after.
--     reading_order w k m           the order: that which most calls share, 1, 2, 3, then 4, then 5; `reading-numbers`: by its numbers
--     StepFromSays kind w k b r c  to the least of the kind above w, with the prenecklaces passed on the way
--     BraceletFromSays w k b r c   to the least bracelet above w, which tells no moves
-- Where there is none above, and where it refuses, nothing is written. That no two answers fit, the output included: proofs/Unique. That it is a start from the reading and then
-- the step from the start's record: `walk_reading`, proofs/AsWalk.
use Rattle.std.specs.Prelude.{ℕ, ◌≡◌, refl, Bool, List, [], ◌∷◌, length, Result, Ok, Err}
use Rattle.std.proofs.Math.Option.{none, some}
use Rattle.rings.specs.Prenecklace.{prenecklace}
use Rattle.rings.specs.Alike.{bracelet}
use Rattle.rings.specs.Steps.{next_of, moves}
use Rattle.refusal.specs.declared.Refusal.{Refusal}
use Rattle.refusal.specs.Order.{Checks, Given, Passed, numbered}
use Rattle.refusal.specs.Calls.{Asked, general}
use Rattle.walk_spec.specs.declared.Outcome.{Outcome}
use Rattle.walk_spec.specs.declared.Outcome.TheVariants as O
use Rattle.walk_bracelet_spec.specs.declared.Arrival.{Arrival}
use Rattle.walk_bracelet_spec.specs.declared.Arrival.TheVariants as A

-- one reading that is on a walk where it is a prenecklace, and an output of m places
abbrev pub reading_asked : List ℕ → ℕ → ℕ → Asked
reading_asked w k m = record { n = length w; second = none; k = k; sectors = w; limit = λ i. k; room = some m; counts = none; on_walk = prenecklace w }

abbrev pub reading_order : List ℕ → ℕ → ℕ → Checks
reading_order w k m = general (reading_asked w k m)

-- a reading alone can fail neither 10 nor 6
pub reading-numbers : (w : List ℕ) (k m : ℕ) → numbered (reading_order w k m) ≡ (1 ∷ 10 ∷ 2 ∷ 3 ∷ 4 ∷ 6 ∷ 5 ∷ [])
reading-numbers w k m = refl

abbrev pub StepFromSays : (List ℕ → Bool) → List ℕ → ℕ → List ℕ → Result Outcome Refusal → List ℕ → Type 0
StepFromSays kind w k b (Ok (O.Moved m)) c = Passed (reading_order w k (length b)) × (next_of kind k w ≡ some c) × (m ≡ moves k w (some c))
StepFromSays kind w k b (Ok (O.Done m)) c = Passed (reading_order w k (length b)) × (next_of kind k w ≡ none) × (m ≡ moves k w none) × (c ≡ b)
StepFromSays kind w k b (Err r) c = Given (reading_order w k (length b)) r × (c ≡ b)

abbrev pub BraceletFromSays : List ℕ → ℕ → List ℕ → Result Arrival Refusal → List ℕ → Type 0
BraceletFromSays w k b (Ok A.Moved) c = Passed (reading_order w k (length b)) × (next_of bracelet k w ≡ some c)
BraceletFromSays w k b (Ok A.Done) c = Passed (reading_order w k (length b)) × (next_of bracelet k w ≡ none) × (c ≡ b)
BraceletFromSays w k b (Err r) c = Given (reading_order w k (length b)) r × (c ≡ b)
