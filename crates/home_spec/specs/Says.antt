-- What the calls of this crate promise (01, 'Rules the work stands on'; 'Refusal numbers': home 1, 2, 3, 4; same ring, apart, nearer and nearest 1, 10, 2, 3;
-- even-handed and steady 1, 2, 3).
--     HomeSays w k b r c        bringing w home: the answer r, where the output held b before and holds c after
--     ToldSays a t r            a question with the checks a: the answer r, where t is the truth
--     DistanceSays v w k r      how far apart v and w are: the answer r
--     ClosestSays v w k r       how far apart they are, and the first turn of v that comes so near: the answer r
-- That no two answers satisfy one, the output included: proofs/Unique.
use Rattle.std.specs.Prelude.{ℕ, ◌≡◌, Bool, List, length, Result, Ok, Err}
use Rattle.rings.specs.Necklace.{period}
use Rattle.rings.specs.Home.{home, shift}
use Rattle.rings.specs.Alike.{apart}
use Rattle.refusal.specs.declared.Refusal.{Refusal}
use Rattle.refusal.specs.Order.{Checks, Given, Passed}
use Rattle.refusal.specs.Calls.{two_readings, with_room}
use Rattle.home_spec.specs.declared.Home.{Home}
use Rattle.home_spec.specs.declared.Nearest.{Nearest}
use Rattle.home_spec.specs.Turns.{nearest_turn}

-- the output holds the home reading, and the answer has its shift and the period
pub record Came (w : List ℕ) (k : ℕ) (b : List ℕ) (i p : ℕ) (c : List ℕ) : Type 0 where
  pub passed : Passed (with_room w k (length b))
  pub ring : c ≡ home w
  pub turns : i ≡ shift w
  pub repeats : p ≡ period w

-- a refusal writes nothing
abbrev pub HomeSays : List ℕ → ℕ → List ℕ → Result Home Refusal → List ℕ → Type 0
HomeSays w k b (Ok h) c = Came w k b h.shift h.period c
HomeSays w k b (Err r) c = Given (with_room w k (length b)) r × (c ≡ b)

abbrev pub ToldSays : Checks → Bool → Result Bool Refusal → Type 0
ToldSays a t (Ok u) = Passed a × (t ≡ u)
ToldSays a t (Err r) = Given a r

abbrev pub DistanceSays : List ℕ → List ℕ → ℕ → Result ℕ Refusal → Type 0
DistanceSays v w k (Ok d) = Passed (two_readings v w k) × (d ≡ apart v w)
DistanceSays v w k (Err r) = Given (two_readings v w k) r

abbrev pub ClosestSays : List ℕ → List ℕ → ℕ → Result Nearest Refusal → Type 0
ClosestSays v w k (Ok n) = Passed (two_readings v w k) × (n.distance ≡ apart v w) × (n.shift ≡ nearest_turn v w)
ClosestSays v w k (Err r) = Given (two_readings v w k) r
