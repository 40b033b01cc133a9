-- The home reading and its shift (01, 'Rules the work stands on'; 000, section 1.1: the least of a ring's readings stands for it).
use Rattle.std.specs.Prelude.{ℕ, Bool, List, length}
use Rattle.words.specs.Search.{all_below, least}
use Rattle.words.specs.Order.{up_to}
use Rattle.words.specs.Turn.{turn}

-- the turn by i is not greater than any turn
unfoldable pub least_turn : List ℕ → ℕ → Bool
least_turn w i = all_below (length w) (λ j. up_to (turn i w) (turn j w))

-- the shift: the smallest number of left turns, 0 or more, that gives the least turn
unfoldable pub shift : List ℕ → ℕ
shift w = least (length w) (least_turn w)

-- the home reading: the least turn
unfoldable pub home : List ℕ → List ℕ
home w = turn (shift w) w
