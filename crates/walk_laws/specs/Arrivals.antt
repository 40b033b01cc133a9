-- The rings that a start and the steps to the next bracelet hand out (02, request c).
--     Arrivals w rings       steps from the record w one after another until Done, as their contract tells them, and the rings they came to
--     PairsHandedOut n k     a start from the all-zero ring, and the steps from it
-- What is true of them: proofs/MirrorPairs.
use Rattle.std.specs.Prelude.{ℕ, List, [], ◌∷◌, Ok}
use Rattle.rings.specs.Steps.{zeros}
use Rattle.walk_spec.specs.declared.Walk.{Walk}
use Rattle.walk_spec.specs.Record.{ring_of}
use Rattle.walk_spec.specs.Says.{StartSays}
use Rattle.walk_bracelet_spec.specs.declared.Arrival.TheVariants.{Moved, Done}
use Rattle.walk_bracelet_spec.specs.Says.{ArrivalSays}

-- steps one after another until Done, as the contract tells them: the rings they came to
pub data Arrivals : Walk → List (List ℕ) → Type 0 where
  ends : {w v : Walk} → ArrivalSays w v (Ok Done) → Arrivals w []
  goes : {w v : Walk} {rings : List (List ℕ)} → ArrivalSays w v (Ok Moved) → Arrivals v rings → Arrivals w (ring_of v ∷ rings)

-- a start from the all-zero ring of n sectors and k shades, and the steps to the next bracelet from it until Done
pub record PairsHandedOut (n k : ℕ) : Type 0 where
  -- the record that the start hands out
  pub first : Walk
  pub started : StartSays (zeros n) k first (Ok tt)
  -- the rings of the records that the steps hand out
  pub rings : List (List ℕ)
  pub steps : Arrivals first rings
