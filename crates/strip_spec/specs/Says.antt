-- What writing a strip and telling a place promise (02, request l). A strip has at most 4096 sectors.
--     strip_order n k m         the order of writing the strip of n and k into m bytes: 1, 2, 12 (`limits`), then 4
--     StripSays n k o a u      writing it into the output o, which is u afterwards, is answered with a
--     place_order w k           the order of telling the place of the reading w of k shades: 1, 2, 3 as everywhere, then 12
--     strip-numbers, place-numbers    both orders by their numbers, as the client says them
--     PlaceSays w k a          telling it is answered with a: the one place of the strip at which w stands
-- That no two answers satisfy them, and the output too: proofs/Unique. What follows of the code: proofs/Laws.
use Rattle.std.specs.Prelude.{ℕ, ◌^◌, ◌≤◌, ◌≡◌, refl, List, [], ◌∷◌, length, Result, Ok, Err}
use Rattle.refusal.specs.declared.Refusal.{Refusal}
use Rattle.refusal.specs.declared.Refusal.TheVariants.{Room, TooMany}
use Rattle.refusal.specs.Order.{Checks, fact, ◌▸◌, Passed, Given, numbered}
use Rattle.refusal.specs.Calls.{one_reading}
use Rattle.limits_spec.specs.Limits.{Listable, numbers_order}
use Rattle.strip_spec.specs.Strip.{strip}
use Rattle.strip_spec.specs.Places.{OnePlace}

-- the order 1, 2, 12, 4
abbrev pub strip_order : ℕ → ℕ → ℕ → Checks
strip_order n k m = numbers_order 4096 k n ▸ fact (m ≡ k ^ n) Room

pub strip-numbers : (n k m : ℕ) → numbered (strip_order n k m) ≡ (1 ∷ 2 ∷ 12 ∷ 4 ∷ [])
strip-numbers n k m = refl

-- the output is the strip, or as it was
abbrev pub StripSays : ℕ → ℕ → List ℕ → Result Unit Refusal → List ℕ → Type 0
StripSays n k o (Ok _) u = Listable 4096 k n × (length o ≡ k ^ n) × (u ≡ strip n k)
StripSays n k o (Err r) u = Given (strip_order n k (length o)) r × (u ≡ o)

-- the order 1, 2, 3, 12
abbrev pub place_order : List ℕ → ℕ → Checks
place_order w k = one_reading w k ▸ fact (k ^ length w ≤ 4096) TooMany

-- of the order that most calls share a reading can fail 1, 2 and 3 alone
pub place-numbers : (w : List ℕ) (k : ℕ) → numbered (place_order w k) ≡ (1 ∷ 10 ∷ 2 ∷ 3 ∷ 4 ∷ 6 ∷ 5 ∷ 12 ∷ [])
place-numbers w k = refl

abbrev pub PlaceSays : List ℕ → ℕ → Result ℕ Refusal → Type 0
PlaceSays w k (Ok p) = Passed (one_reading w k) × (k ^ length w ≤ 4096) × OnePlace (strip (length w) k) w p
PlaceSays w k (Err r) = Given (place_order w k) r
