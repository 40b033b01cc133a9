-- What the two calls promise (02, i).
--     ShadeSays c k x s          what the value x tells: the sector's answer s
--     SectorSays x k c a         one sector: the answer a
--     RingSays xs k c b a d      a ring: the answer a, where the output held b before and holds d after
-- That no two answers satisfy one, the output included: proofs/Unique.
use Rattle.std.specs.Prelude.{ℕ, ◌≡◌, List, map, length, Float, Result, Ok, Err}
use Rattle.refusal.specs.declared.Refusal.{Refusal}
use Rattle.refusal.specs.Order.{Passed, Given}
use Rattle.density_spec.specs.declared.Card.{Card}
use Rattle.density_spec.specs.declared.Sector.{Sector}
use Rattle.density_spec.specs.declared.Sector.TheVariants.{Shade, Outside, NotANumber}
use Rattle.density_spec.specs.Cuts.{shade_of, NoNumber, Out, In}
use Rattle.density_spec.specs.Order.{sector_order, ring_order}

-- a shade, the offending value itself, or that it is no number
abbrev pub ShadeSays : Card → ℕ → Float → Sector → Type 0
ShadeSays c k x (Shade s) = In x × (s ≡ shade_of c k x)
ShadeSays c k x (Outside y) = Out x × (y ≡ x)
ShadeSays c k x NotANumber = NoNumber x

abbrev pub SectorSays : Float → ℕ → Card → Result Sector Refusal → Type 0
SectorSays x k c (Ok s) = Passed (sector_order k c) × ShadeSays c k x s
SectorSays x k c (Err r) = Given (sector_order k c) r

-- the output holds each sector's shade; a refusal writes nothing
abbrev pub RingSays : List Float → ℕ → Card → List ℕ → Result Unit Refusal → List ℕ → Type 0
RingSays xs k c b (Ok _) d = Passed (ring_order xs k c (length b)) × (d ≡ map (shade_of c k) xs)
RingSays xs k c b (Err r) d = Given (ring_order xs k c (length b)) r × (d ≡ b)
