-- The room that a record takes, and what is known of a ring that the reader answered.
--     record_room       no record shows more bytes
--     PassedRing n k w   w is a ring of n sectors and k shades that the writer's checks pass
use Rattle.std.specs.Prelude.{ℕ, ◌≡◌, List, length}
use Rattle.refusal.specs.Order.{Passed}
use Rattle.refusal.specs.Calls.{one_reading}

abbrev pub record_room : ℕ
record_room = 140

pub record PassedRing (n k : ℕ) (w : List ℕ) : Type 0 where
  pub long : length w ≡ n
  pub passed : Passed (one_reading w k)
