-- What a start and a step promise (01, 'Walks', 'Refusal numbers'), by cases on the answer. v is the record that is handed out. Last, steps one after another (Steps).
-- That no two different answers fit: proofs/Unique.
use Rattle.std.specs.Prelude.{ℕ, ◌+◌, ◌≡◌, Bool, List, [], ◌∷◌, Result, Ok, Err}
use Rattle.std.proofs.Math.Option.{none, some}
use Rattle.rings.specs.Necklace.{necklace, period}
use Rattle.rings.specs.Prenecklace.{prenecklace}
use Rattle.rings.specs.Steps.{next_of, moves}
use Rattle.refusal.specs.declared.Refusal.{Refusal}
use Rattle.refusal.specs.Order.{Given, Passed}
use Rattle.refusal.specs.Calls.{walk_start}
use Rattle.walk_spec.specs.declared.Walk.{Walk}
use Rattle.walk_spec.specs.declared.Outcome.{Outcome}
use Rattle.walk_spec.specs.declared.Outcome.TheVariants.{Moved, Done}
use Rattle.walk_spec.specs.Record.{ring_of, walk_of, empty_walk, walk_asked}

-- a start from the reading s: the record of s, or the refusal and the empty record
abbrev pub StartSays : List ℕ → ℕ → Walk → Result Unit Refusal → Type 0
StartSays s k v (Ok _) = Passed (walk_start s k (prenecklace s)) × (v ≡ walk_of k s)
StartSays s k v (Err r) = Given (walk_start s k (prenecklace s)) r × (v ≡ empty_walk)

-- the step came to the ring u: the least of the kind above the ring of w, with the prenecklaces passed on the way
pub record Onto (kind : List ℕ → Bool) (w v : Walk) (m : ℕ) : Type 0 where
  pub good : Passed (walk_asked w)
  pub to : List ℕ
  pub next : next_of kind w.k (ring_of w) ≡ some to
  pub handed : v ≡ walk_of w.k to
  pub counted : m ≡ moves w.k (ring_of w) (some to)

-- there is none above: the record as it was given, and all prenecklaces above
pub record Ended (kind : List ℕ → Bool) (w v : Walk) (m : ℕ) : Type 0 where
  pub good : Passed (walk_asked w)
  pub next : next_of kind w.k (ring_of w) ≡ none
  pub handed : v ≡ w
  pub counted : m ≡ moves w.k (ring_of w) none

-- a step from the record w
abbrev pub StepSays : (List ℕ → Bool) → Walk → Walk → Result Outcome Refusal → Type 0
StepSays kind w v (Ok (Moved m)) = Onto kind w v m
StepSays kind w v (Ok (Done m)) = Ended kind w v m
StepSays kind w v (Err r) = Given (walk_asked w) r × (v ≡ w)

-- a step by necklaces in the ring's own place, from s to v; p is the period of v. This serves the listing alone, which steps from rings that are good
abbrev pub WentSays : ℕ → List ℕ → List ℕ → Outcome → ℕ → Type 0
WentSays k s v (Moved m) p = (next_of necklace k s ≡ some v) × (m ≡ moves k s (some v)) × (p ≡ period v)
WentSays k s v (Done m) p = (next_of necklace k s ≡ none) × (m ≡ moves k s none) × (v ≡ s)

-- steps one after another until Done, as the contract tells them: the rings they came to, and the sum of their moves
pub data Steps (kind : List ℕ → Bool) : Walk → List (List ℕ) → ℕ → Type 0 where
  ends : {w v : Walk} {m : ℕ} → StepSays kind w v (Ok (Done m)) → Steps kind w [] m
  goes : {w v : Walk} {m s : ℕ} {rings : List (List ℕ)} → StepSays kind w v (Ok (Moved m)) → Steps kind v rings s → Steps kind w (ring_of v ∷ rings) (m + s)
