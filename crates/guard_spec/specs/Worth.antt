-- What a guarded set is to be worth, over the set ts and the words that were looked at, in the order taken and looked at.
--     Unsteady d u                        a turn of u but itself is nearer to it than d
--     Crossed d ts u                      why u is left out: it is nearer than d to one taken earlier, or its mirror image is, or its two sides are to one another, or it is unsteady
--     Decided d ts u                      u is taken, or crossed
--     GuardedWorth n k d want ts seen full    all that is asked of a guarded set
-- That the guarded choice is worth it: `guard_laws`, Worth.
use Rattle.std.specs.Prelude.{ℕ, ◌<◌, ◌≡◌, Bool, true, false, List, [], length, get_or}
use Rattle.words.specs.Order.{before, up_to}
use Rattle.words.specs.Turn.{turn}
use Rattle.rings.specs.Alike.{differing, apart, mirrored}
use Rattle.set_spec.specs.Worth.{OneOf, last_taken, LyndonOf, LyndonWords, Rising, Near}
use Rattle.guard_spec.specs.Sides.{Guarded}

-- a turn of u but itself is nearer to it than d
pub record Unsteady (d : ℕ) (u : List ℕ) : Type 0 where
  pub by : ℕ
  pub some : 0 < by
  pub inside : by < length u
  pub near : differing (turn by u) u < d

-- why u is left out
pub data Crossed (d : ℕ) (ts : List (List ℕ)) (u : List ℕ) : Type 0 where
  -- it is near one taken earlier
  near : Near d ts u → Crossed d ts u
  -- seen from the other side it is near one taken earlier
  behind : (i : ℕ) → i < length ts → before (get_or ts i []) u ≡ true → apart (get_or ts i []) (mirrored u) < d → Crossed d ts u
  -- its two sides are near one another
  sided : apart u (mirrored u) < d → Crossed d ts u
  -- it is near one of its own turns
  unsteady : Unsteady d u → Crossed d ts u

-- u is taken, or there is a reason against it
pub data Decided (d : ℕ) (ts : List (List ℕ)) (u : List ℕ) : Type 0 where
  took : OneOf ts u → Decided d ts u
  left_out : Crossed d ts u → Decided d ts u

pub record GuardedWorth (n k d want : ℕ) (ts seen : List (List ℕ)) (full : Bool) : Type 0 where
  pub members : LyndonWords n k ts
  pub rising : Rising ts
  pub guarded : Guarded d ts
  -- each one taken is one of those looked at
  pub looked-at : (i : ℕ) → i < length ts → OneOf seen (get_or ts i [])
  -- where the set is full, the last one taken is the last one looked at
  pub last-looked : full ≡ true → last_taken ts ≡ last_taken seen
  -- each Lyndon word up to one that was looked at is taken, or there is a reason against it
  pub decided : (u v : List ℕ) → LyndonOf n k u → OneOf seen v → up_to u v ≡ true → Decided d ts u
  -- full is exactly the wanted number
  pub enough : full ≡ true → length ts ≡ want
  -- not full: fewer, and of all Lyndon words none is left that could be taken
  pub short : full ≡ false → length ts < want
  pub none_left : full ≡ false → (u : List ℕ) → LyndonOf n k u → Decided d ts u
