-- What the search for the next ring of given counts starts from.
--     Ready w n k cs       the first n sectors of w are a reading of k shades, and the counts are for n and k
--     Opening w n k cs     they are also a prenecklace
use Rattle.std.specs.Prelude.{ℕ, ◌<◌, ◌≤◌, ◌≡◌, true, List, length, take}
use Rattle.words.specs.Readings.{Reading}
use Rattle.words.specs.Sum.{sum_of}
use Rattle.rings.specs.Prenecklace.{prenecklace}

-- the first n sectors of w are a reading of k shades, and the counts are for n and k
pub record Ready (w : List ℕ) (n k : ℕ) (cs : List ℕ) : Type 0 where
  pub pos : 0 < n
  pub size : n ≤ 64
  pub shades : k ≤ 16
  pub many : length cs ≡ k
  pub whole : sum_of cs ≡ n
  pub reading : Reading n k (take n w)

-- they are also a prenecklace
pub record Opening (w : List ℕ) (n k : ℕ) (cs : List ℕ) : Type 0 where
  pub ready : Ready w n k cs
  pub pre : prenecklace (take n w) ≡ true
