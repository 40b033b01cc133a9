-- How answers of `home::apart` and `home::same_ring` agree (02, request d). The calls are spoken of by their contracts, which no two answers satisfy (`home_spec`,
-- proofs/Unique): so the answers here are the code's.
--     SameSays v w k t     the contract of `same_ring`; that of `apart` is `DistanceSays`
--     Alike x y            two answers of `apart`: the same distance, or both are refusals
--     AlikeTold s t        two answers of `same_ring`: both yes, both no, or both are refusals
--     Zero x t             an answer of `apart` and one of `same_ring`: 0 exactly where it is yes, and the same refusal
--     Within a b z         an answer of `apart` beside two distances a and b: it is a distance too, and no more than the two together
-- That they hold: proofs/Apart.
use Rattle.std.specs.Prelude.{ℕ, ◌+◌, ◌<◌, ◌≤◌, Bool, true, false, List, Result, Ok, Err}
use Rattle.rings.specs.Alike.{same_ring}
use Rattle.refusal.specs.declared.Refusal.{Refusal}
use Rattle.refusal.specs.Calls.{two_readings}
use Rattle.home_spec.specs.Says.{ToldSays}

abbrev pub SameSays : List ℕ → List ℕ → ℕ → Result Bool Refusal → Type 0
SameSays v w k t = ToldSays (two_readings v w k) (same_ring v w) t

-- two answers of `apart`. Which refusal it is may differ: a first reading of no sectors is Length, as a second one it is Pair
pub data Alike : Result ℕ Refusal → Result ℕ Refusal → Type 0 where
  distance : (d : ℕ) → Alike (Ok d) (Ok d)
  both-refused : (r s : Refusal) → Alike (Err r) (Err s)

-- two answers of `same_ring`
pub data AlikeTold : Result Bool Refusal → Result Bool Refusal → Type 0 where
  both_tell : (t : Bool) → AlikeTold (Ok t) (Ok t)
  neither-told : (r s : Refusal) → AlikeTold (Err r) (Err s)

-- 0 apart exactly where the ring is the same
pub data Zero : Result ℕ Refusal → Result Bool Refusal → Type 0 where
  same : Zero (Ok 0) (Ok true)
  other : (d : ℕ) → 0 < d → Zero (Ok d) (Ok false)
  refused : (r : Refusal) → Zero (Err r) (Err r)

-- the triangle
pub data Within (a b : ℕ) : Result ℕ Refusal → Type 0 where
  within : (c : ℕ) → c ≤ a + b → Within a b (Ok c)
