-- When a reading is a turn of another (01, 'Rules the work stands on').
-- Its laws: proofs/Turning.
use Rattle.std.specs.Prelude.{ℕ, Bool, List, length}
use Rattle.words.specs.Search.{some_below}
use Rattle.words.specs.Order.{same}
use Rattle.words.specs.Turn.{turn}

-- w is a turn of v: turning v by some number below its length gives w
unfoldable pub is_turn : List ℕ → List ℕ → Bool
is_turn v w = some_below (length v) (λ i. same (turn i v) w)
