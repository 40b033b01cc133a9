-- What looking for a reading r among rings promises, by cases on the answer. All sides of all rings are looked at: from the front, and then from behind, in order.
--     Alone e us r j                   of us the one number j is at most e apart from r, and no other is
--     Two e us r                       two of us are
--     None e us r                      none is
--     Seen rs r e a                    what is seen, where e sectors may be misread
--     SightSays rs r k e a             what the answer a promises
-- That no two answers fit: proofs/Unique. What is answered where the rings are guarded: `sight_laws`.
use Rattle.std.specs.Prelude.{ℕ, ◌+◌, ◌<◌, ◌≤◌, ◌≡◌, List, [], reverse, length, get_or, Result, Ok, Err}
use Rattle.rings.specs.Alike.{apart, mirrored}
use Rattle.refusal.specs.declared.Refusal.{Refusal}
use Rattle.refusal.specs.Order.{Given, Passed}
use Rattle.home_spec.specs.Turns.{nearest_turn}
use Rattle.guard_spec.specs.Sides.{sides}
use Rattle.sight_spec.specs.declared.Sighting.{Sighting}
use Rattle.sight_spec.specs.declared.Sighting.TheVariants.{Front, Back, Several, Unknown}
use Rattle.sight_spec.specs.Rings.{ring_at, rings_in, sight_order}

-- of us the one number j, and no other, is at most e apart from r
pub record Alone (e : ℕ) (us : List (List ℕ)) (r : List ℕ) (j : ℕ) : Type 0 where
  pub inside : j < length us
  pub near : apart r (get_or us j []) ≤ e
  pub others : (i : ℕ) → i < length us → (i ≡ j → ⊥) → e < apart r (get_or us i [])

-- two of us are at most e apart from r
pub record Two (e : ℕ) (us : List (List ℕ)) (r : List ℕ) : Type 0 where
  pub one : ℕ
  pub two : ℕ
  pub order : one < two
  pub inside : two < length us
  pub near : apart r (get_or us one []) ≤ e
  pub also-near : apart r (get_or us two []) ≤ e

-- none is
abbrev pub None : ℕ → List (List ℕ) → List ℕ → Type 0
None e us r = (i : ℕ) → i < length us → e < apart r (get_or us i [])

-- the ring number t is seen from the front
pub record SeenFront (rs r : List ℕ) (e t i x : ℕ) : Type 0 where
  pub target : t < length (rings_in (length r) rs)
  pub alone : Alone e (sides (rings_in (length r) rs)) r t
  pub turned : i ≡ nearest_turn r (ring_at (length r) rs t)
  pub misread : x ≡ apart r (ring_at (length r) rs t)

-- the ring number t is seen from behind: its other side stands behind all rings
pub record SeenBack (rs r : List ℕ) (e t i x : ℕ) : Type 0 where
  pub target : t < length (rings_in (length r) rs)
  pub alone : Alone e (sides (rings_in (length r) rs)) r (length (rings_in (length r) rs) + t)
  pub turned : i ≡ nearest_turn (reverse r) (ring_at (length r) rs t)
  pub misread : x ≡ apart r (mirrored (ring_at (length r) rs t))

-- what is seen
abbrev pub Seen : List ℕ → List ℕ → ℕ → Sighting → Type 0
Seen rs r e (Front t i x) = SeenFront rs r e t i x
Seen rs r e (Back t i x) = SeenBack rs r e t i x
Seen rs r e Several = Two e (sides (rings_in (length r) rs)) r
Seen rs r e Unknown = None e (sides (rings_in (length r) rs)) r

-- where no check fails, what is seen
abbrev pub SightSays : List ℕ → List ℕ → ℕ → ℕ → Result Sighting Refusal → Type 0
SightSays rs r k e (Ok a) = Passed (sight_order r rs k) × Seen rs r e a
SightSays rs r k e (Err q) = Given (sight_order r rs k) q
