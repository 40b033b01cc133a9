-- What the functions promise.
--     FirstNear e rs r from x   x is the first ring from the number `from` on that is at most e apart from r, or how many rings there are
--     NearSays e ts r a         which of the readings ts are at most e apart from r: none, one, or more
use Rattle.std.specs.Prelude.{ℕ, ◌/◌, ◌<◌, ◌≤◌, List, length}
use Rattle.rings.specs.Alike.{apart}
use Rattle.sight_spec.specs.Rings.{ring_at}
use Rattle.sight_spec.specs.Says.{Alone, Two, None}
use Rattle.sight_near_inner.specs.declared.Near.{Near}
use Rattle.sight_near_inner.specs.declared.Near.TheVariants.{Nobody, One, Many}

-- x is the first ring from `from` on that is at most e apart from r, or how many rings there are
pub record FirstNear (e : ℕ) (rs r : List ℕ) (from x : ℕ) : Type 0 where
  pub on : from ≤ x
  pub within : x ≤ length rs / length r
  pub passed : (i : ℕ) → from ≤ i → i < x → e < apart r (ring_at (length r) rs i)
  pub here : x < length rs / length r → apart r (ring_at (length r) rs x) ≤ e

-- which of ts are at most e apart from r
abbrev pub NearSays : ℕ → List (List ℕ) → List ℕ → Near → Type 0
NearSays e ts r Nobody = None e ts r
NearSays e ts r (One j) = Alone e ts r j
NearSays e ts r Many = Two e ts r
