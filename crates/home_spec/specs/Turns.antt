-- Which turn of a reading comes nearest to another, and readings that none of their own turns comes near.
--     as_near v w i         turned by i, v differs from w at as few places as the two are apart
--     nearest_turn v w      the fewest left turns of v that do
--     turn_far d w j        turned by j + 1, w differs from itself at d places at least
--     steady d w           so does every turn of w but w itself: a camera that misreads few sectors is not wrong about how far it is turned
--     Steady d w           the same, turn by turn (`home_turns_laws`, Steady)
use Rattle.std.specs.Prelude.{ℕ, suc, ◌-◌, ◌<◌, ◌≤◌, Bool, not, List, length, eqb, ltb}
use Rattle.words.specs.Search.{all_below, least}
use Rattle.words.specs.Turn.{turn}
use Rattle.rings.specs.Alike.{differing, apart}

-- turned by i, v is as near to w as it can be
unfoldable pub as_near : List ℕ → List ℕ → ℕ → Bool
as_near v w i = eqb (differing (turn i v) w) (apart v w)

-- the fewest left turns that bring v as near to w
unfoldable pub nearest_turn : List ℕ → List ℕ → ℕ
nearest_turn v w = least (length v) (as_near v w)

-- turned by j + 1, w differs from itself at d places at least
unfoldable pub turn_far : ℕ → List ℕ → ℕ → Bool
turn_far d w j = not (ltb (differing (turn (suc j) w) w) d)

-- so does every turn of w but w itself
unfoldable pub steady : ℕ → List ℕ → Bool
steady d w = all_below (length w - 1) (turn_far d w)

-- the same, turn by turn
abbrev pub Steady : ℕ → List ℕ → Type 0
Steady d w = (j : ℕ) → 0 < j → j < length w → d ≤ differing (turn j w) w
