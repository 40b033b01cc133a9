-- Both sides of the rings of a set, and what it is for a set to be guarded.
--     sides ts         the rings as seen from the front, and behind them, in the same order, as seen from the other side
--     Guarded d ts     any two of these are at least d apart, the two sides of one ring too; and each ring is steady: no turn of it but itself is nearer than d
-- What follows for a reading: `guard_laws`, Sides.
use Rattle.std.specs.Prelude.{ℕ, ◌<◌, List, [], ◌++◌, map, length, get_or}
use Rattle.rings.specs.Alike.{mirrored}
use Rattle.home_spec.specs.Turns.{Steady}
use Rattle.set_spec.specs.Worth.{Spread}

-- the rings, and then each seen from the other side
unfoldable pub sides : List (List ℕ) → List (List ℕ)
sides ts = ts ++ map mirrored ts

pub record Guarded (d : ℕ) (ts : List (List ℕ)) : Type 0 where
  -- any two of both sides are at least d apart
  pub spread : Spread d (sides ts)
  -- no turn of a ring is taken for the ring: then not only which ring is seen is told, but also how far it is turned
  pub steady : (i : ℕ) → i < length ts → Steady d (get_or ts i [])
