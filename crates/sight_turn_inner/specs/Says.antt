-- What the functions promise.
--     Turns v w i x             i is the nearest turn of v to w, and x how far apart they are
use Rattle.std.specs.Prelude.{ℕ, ◌≡◌, List}
use Rattle.rings.specs.Alike.{apart}
use Rattle.home_spec.specs.Turns.{nearest_turn}

-- i is the nearest turn of v to w, and x how far apart they are
pub record Turns (v w : List ℕ) (i x : ℕ) : Type 0 where
  pub turned : i ≡ nearest_turn v w
  pub misread : x ≡ apart v w
