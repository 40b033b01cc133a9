-- What a listing has behind it when it stands at a ring, and when a state stands.
--     rings_to k v, moves_to k v      the necklaces of v's length not above v, and the moves from the all-zero ring to v
--     CountedSoFar n k v rings sum  v is a necklace of n and k, and the counts are those up to it
--     Stands s                      a state stands: its numbers may be listed, and its counts are those of its ring
use Rattle.std.specs.Prelude.{ℕ, ◌≡◌, true, ◌&&◌, List, length}
use Rattle.std.proofs.Math.Option.{some}
use Rattle.words.specs.Order.{up_to}
use Rattle.words.specs.Readings.{Reading, readings, count}
use Rattle.rings.specs.Necklace.{necklace}
use Rattle.rings.specs.Steps.{moves}
use Rattle.limits_spec.specs.Limits.{Listable}
use Rattle.listing_spec.specs.declared.State.{State}
use Rattle.listing_spec.specs.Listing.{zero_ring}
use Rattle.listing_spec.specs.Prints.{most_printed}
use Rattle.listing_spec.specs.State.{state_ring}

-- the necklaces of the same n and k that are not above v
unfoldable pub rings_to : ℕ → List ℕ → ℕ
rings_to k v = count (λ u. necklace u && up_to u v) (readings (length v) k)

-- the moves from the all-zero ring to v
unfoldable pub moves_to : ℕ → List ℕ → ℕ
moves_to k v = moves k (zero_ring (length v)) (some v)

-- v is a necklace of n and k, and the counts are those up to it
pub record CountedSoFar (n k : ℕ) (v : List ℕ) (rings sum : ℕ) : Type 0 where
  pub reading : Reading n k v
  pub member : necklace v ≡ true
  pub rings-are : rings ≡ rings_to k v
  pub sum_is : sum ≡ moves_to k v

-- a state stands: its numbers may be listed, and its counts are those of its ring
pub record Stands (s : State) : Type 0 where
  pub numbers : Listable most_printed s.k s.n
  pub counted : CountedSoFar s.n s.k (state_ring s) s.rings s.moves
