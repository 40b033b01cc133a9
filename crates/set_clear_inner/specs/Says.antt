-- What the places of a set hold, and whether a ring is apart from that.
--     Fit n k                  n and k are numbers of this product
--     tally_at q j              the 16 counts at place j of the tallies q
--     HoldsSet n k ts p q t    the places p hold the set ts of readings of n and k, the tallies q the shade counts of each, and t are taken
--     Stocked n k p q t        they hold some set
--     Comparable p q t w c k   w is a reading of k, with the shade counts c, as long as those of the set that the places p and the tallies q hold, of which t are taken
--     clear_in n d p t w        w is at least d apart from the readings in the first t places
use Rattle.std.specs.Prelude.{ℕ, ◌*◌, ◌<◌, ◌≤◌, ◌≡◌, Bool, List, [], length, get_or, take, drop}
use Rattle.words.specs.Search.{all_below}
use Rattle.words.specs.Readings.{Shaded, Reading}
use Rattle.rings.specs.Counts.{counts_of}
use Rattle.set_spec.specs.Greedy.{far_from}
use Rattle.set_spec.specs.Places.{laid, place_at}

-- n and k are numbers of this product
pub record Fit (n k : ℕ) : Type 0 where
  pub some : 1 ≤ n
  pub short : n ≤ 24
  pub shaded : Shaded k

-- the 16 counts at place j
abbrev pub tally_at : List ℕ → ℕ → List ℕ
tally_at q j = take 16 (drop (16 * j) q)

-- the places hold the set ts, the tallies its shade counts, and t are taken
pub record HoldsSet (n k : ℕ) (ts : List (List ℕ)) (p q : List ℕ) (t : ℕ) : Type 0 where
  pub places : p ≡ laid ts
  pub number : t ≡ length ts
  pub each : (j : ℕ) → j < length ts → Reading n k (get_or ts j [])
  pub room : length q ≡ 512
  pub tallies : (j : ℕ) → j < length ts → tally_at q j ≡ counts_of 16 (get_or ts j [])

pub record Stocked (n k : ℕ) (p q : List ℕ) (t : ℕ) : Type 0 where
  pub set : List (List ℕ)
  pub holds : HoldsSet n k set p q t

-- a ring and what it is compared with
pub record Comparable (p q : List ℕ) (t : ℕ) (w c : List ℕ) (k : ℕ) : Type 0 where
  pub fit : Fit (length w) k
  pub reading : Reading (length w) k w
  pub counts : c ≡ counts_of 16 w
  pub stock : Stocked (length w) k p q t
  pub most : t ≤ 32

abbrev pub clear_in : ℕ → ℕ → List ℕ → ℕ → List ℕ → Bool
clear_in n d p t w = all_below t (λ j. far_from d (place_at n p j) w)
