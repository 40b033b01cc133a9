-- The turn of v that comes nearest to w.
--     nearest-lt, nearest-at    it is one by less than n, and after it as many sectors differ as the two are apart
--     nearest-is                of a steady ring it is the turn by which it was turned, where x sectors are misread, and x and those at which it comes nearest are together below d
use Rattle.words.proofs.Plain.{ℕ, ◌+◌, ◌<◌, ◌≤◌, arith, ◌≡◌, List, length, eqb-true, eq-eqb}
use Rattle.words.specs.Turn.{turn}
use Rattle.words.proofs.Split.{lt, eq, gt, tri}
use Rattle.words.proofs.Search.{least_lt, least_at}
use Rattle.rings.specs.Alike.{differing, apart}
use Rattle.ring_home_laws.proofs.Alike.{apart-at}
use Rattle.home_spec.specs.Turns.{as_near, nearest_turn, Steady}
use Rattle.home_turns_laws.proofs.OneTurn.{one-turn}

module _ (v w : List ℕ) (z : 0 < length v) where
  -- it is one by less than n
  pub nearest-lt : nearest_turn v w < length v
  unfolding nearest_turn as_near
  nearest-lt = at (apart-at v w z)
    where
      at : (i : ℕ) × (i < length v) × (differing (turn i v) w ≡ apart v w) → nearest_turn v w < length v
      at (i, l, e) = least_lt (length v) (as_near v w) i l (eq-eqb (differing (turn i v) w) (apart v w) e)

  -- after it as many sectors differ as the two are apart
  pub nearest-at : differing (turn (nearest_turn v w) v) w ≡ apart v w
  unfolding nearest_turn as_near
  nearest-at = eqb-true (differing (turn (nearest_turn v w) v) w) (apart v w) (least_at (length v) (as_near v w) nearest-lt)

-- of a steady ring v it is the turn by which it was turned: x sectors of r are misread, and it comes as near as e
pub nearest-is : (d x e : ℕ) (r v : List ℕ) → length r ≡ length v → Steady d v → x + e < d → apart r v ≤ e → (i : ℕ) → i < length r → differing (turn i r) v ≤ x → nearest_turn r v ≡ i
nearest-is d x e r v size steady small close i h near =
    let z : 0 < length r = omega arith in
    let m = nearest-lt r v z in
    elim (tri (nearest_turn r v) i) [
      | lt l ↦ absurd (omega (arith, one-turn d x e r v size steady small i (nearest_turn r v) h m (λ q. omega arith) near, nearest-at r v z))
      | eq l ↦ l
      | gt l ↦ absurd (omega (arith, one-turn d x e r v size steady small i (nearest_turn r v) h m (λ q. omega arith) near, nearest-at r v z))
    ]
