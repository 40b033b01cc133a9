-- Every reading has one ring (02, request n), and the sums of demand 3, said of what `walk::start` and `walk::next_necklace` hand out one after another until Done.
--     HandedOut n k             such a start, and the steps from it
--     OneRingHandedOut          each reading is a turn of exactly one ring handed out
--     PeriodsHandedOut          the periods of the rings handed out add up to k to the power n
--     MovesHandedOut, MovesWithin    demand 3: the moves that the steps report add up to one less than the prenecklaces of n and k, and to at most one less
--                                    than the necklaces of lengths 1 to n together
-- The calls are spoken of by their contracts, which no two answers satisfy (`walk_spec`, proofs/Unique): so the answers here are the code's. That they hold, and that there
-- is such a start and such steps for every n and k of the page: proofs/OneRing.
use Rattle.std.specs.Prelude.{ℕ, suc, ◌≤◌, ◌≡◌, List, Ok}
use Rattle.rings.specs.Necklace.{necklace}
use Rattle.rings.specs.Prenecklace.{prenecklace}
use Rattle.rings.specs.Steps.{how_many, how_many_to, zeros}
use Rattle.ring_total_laws.specs.OneRing.{OneRingEach, PeriodsAddUp}
use Rattle.walk_spec.specs.declared.Walk.{Walk}
use Rattle.walk_spec.specs.Record.{ring_of}
use Rattle.walk_spec.specs.Says.{StartSays, Steps}

-- a start from the all-zero ring of n sectors and k shades, and the steps by necklaces from it until Done, as their contracts tell them
pub record HandedOut (n k : ℕ) : Type 0 where
  -- the record that the start hands out
  pub first : Walk
  pub started : StartSays (zeros n) k first (Ok tt)
  -- the rings of the records that the steps hand out, and the sum of their moves
  pub rings : List (List ℕ)
  pub sum : ℕ
  pub steps : Steps necklace first rings sum

-- each reading of n and k is a turn of exactly one ring handed out
abbrev pub OneRingHandedOut : (n k : ℕ) → HandedOut n k → Type 0
OneRingHandedOut n k out = OneRingEach n k (ring_of out.first) out.rings

-- the periods of the rings handed out add up to k to the power n
abbrev pub PeriodsHandedOut : (n k : ℕ) → HandedOut n k → Type 0
PeriodsHandedOut n k out = PeriodsAddUp n k (ring_of out.first) out.rings

-- the moves that the steps report add up to one less than the prenecklaces of n and k
abbrev pub MovesHandedOut : (n k : ℕ) → HandedOut n k → Type 0
MovesHandedOut n k out = suc out.sum ≡ how_many prenecklace n k

-- and to at most one less than the necklaces of k shades and of 1 to n sectors together
abbrev pub MovesWithin : (n k : ℕ) → HandedOut n k → Type 0
MovesWithin n k out = suc out.sum ≤ how_many_to necklace n k
