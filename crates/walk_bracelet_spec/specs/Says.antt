-- What the step to the next bracelet promises (02, request c), by cases on the answer. v is the record that is handed back; no moves are reported.
--     Onward w v            the step came to the least bracelet above the ring of w
--     Last w v              there is none above
--     ArrivalSays w v a     the answer a to the record w
-- That no two different answers fit: proofs/Unique.
use Rattle.std.specs.Prelude.{ℕ, ◌≡◌, List, Result, Ok, Err}
use Rattle.std.proofs.Math.Option.{none, some}
use Rattle.rings.specs.Alike.{bracelet}
use Rattle.rings.specs.Steps.{next_of}
use Rattle.refusal.specs.declared.Refusal.{Refusal}
use Rattle.refusal.specs.Order.{Given, Passed}
use Rattle.walk_spec.specs.declared.Walk.{Walk}
use Rattle.walk_spec.specs.Record.{ring_of, walk_of, walk_asked}
use Rattle.walk_bracelet_spec.specs.declared.Arrival.{Arrival}
use Rattle.walk_bracelet_spec.specs.declared.Arrival.TheVariants.{Moved, Done}

-- the step came to the ring `to`: the least bracelet above the ring of w, whose record is handed back
pub record Onward (w v : Walk) : Type 0 where
  pub good : Passed (walk_asked w)
  pub to : List ℕ
  pub next : next_of bracelet w.k (ring_of w) ≡ some to
  pub handed : v ≡ walk_of w.k to

-- there is none above: the record as it was given
pub record Last (w v : Walk) : Type 0 where
  pub good : Passed (walk_asked w)
  pub next : next_of bracelet w.k (ring_of w) ≡ none
  pub kept : v ≡ w

-- a step from the record w; refusals 1, 2, 3, 5
abbrev pub ArrivalSays : Walk → Walk → Result Arrival Refusal → Type 0
ArrivalSays w v (Ok Moved) = Onward w v
ArrivalSays w v (Ok Done) = Last w v
ArrivalSays w v (Err r) = Given (walk_asked w) r × (v ≡ w)
