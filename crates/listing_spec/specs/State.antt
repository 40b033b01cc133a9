-- Where a listing stands.
--     state_ring s             the ring of a state: its first n sectors
--     GoodState s             a listing can go on from s
--     empty_state              nothing follows: behind the last page, behind a refusal, and where a state is not good
--     start_state k n          at the all-zero ring
--     Rest, state_behind s r   what is left behind a page: nothing, or the rings above v, where so many rings and moves are behind; and the state that says so
use Rattle.std.specs.Prelude.{ℕ, ◌≤◌, ◌≡◌, true, List, ◌++◌, take, drop, replicate}
use Rattle.words.specs.Readings.{Reading}
use Rattle.rings.specs.Necklace.{necklace}
use Rattle.limits_spec.specs.Limits.{Listable}
use Rattle.listing_spec.specs.declared.State.{State}
use Rattle.listing_spec.specs.Prints.{most_printed}

abbrev pub state_ring : State → List ℕ
state_ring s = take s.n s.ring

-- the ring is a necklace of numbers that may be listed, and the counts are none that no listing has
pub record GoodState (s : State) : Type 0 where
  pub numbers : Listable most_printed s.k s.n
  pub reading : Reading s.n s.k (state_ring s)
  pub member : necklace (state_ring s) ≡ true
  pub rings : s.rings ≤ most_printed
  pub moves : s.moves ≤ most_printed

abbrev pub empty_state : State
empty_state = record { k = 0; n = 0; ring = replicate 64 0; rings = 0; moves = 0 }

-- one ring, no moves
abbrev pub start_state : ℕ → ℕ → State
start_state k n = record { k = k; n = n; ring = replicate 64 0; rings = 1; moves = 0 }

pub data Rest : Type 0 where
  over : Rest
  on : (v : List ℕ) (rings moves : ℕ) → Rest

-- the sectors past n stay as they were
abbrev pub state_behind : State → Rest → State
state_behind s over = empty_state
state_behind s (on v rings moves) = record { k = s.k; n = s.n; ring = v ++ drop s.n s.ring; rings = rings; moves = moves }
