-- Shade counts (01, 'Walks'; 002, section 2: fixed content). The caller lends k counts, one for each shade; a count may be 0, that of shade 0 included.
use Rattle.std.specs.Prelude.{ℕ, ◌+◌, Bool, ◌&&◌, List, [], ◌∷◌, length, eqb}
use Rattle.words.specs.Search.{tab}
use Rattle.words.specs.Order.{same}
use Rattle.words.specs.Readings.{bit}
use Rattle.rings.specs.Necklace.{necklace}

-- how often the shade b stands in w
unfoldable pub occurs : ℕ → List ℕ → ℕ
occurs b [] = 0
occurs b (a ∷ w) = bit (eqb a b) + occurs b w

-- the counts of the shades 0 to k - 1 in w
unfoldable pub counts_of : ℕ → List ℕ → List ℕ
counts_of k w = tab k (λ b. occurs b w)

-- w has exactly these counts
unfoldable pub has_counts : List ℕ → List ℕ → Bool
has_counts cs w = same (counts_of (length cs) w) cs

-- a necklace with exactly these counts
unfoldable pub counted_necklace : List ℕ → List ℕ → Bool
counted_necklace cs w = necklace w && has_counts cs w
