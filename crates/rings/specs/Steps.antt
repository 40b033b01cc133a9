-- Steps and walks (01, 'Walks'): the next reading of a kind, the moves to it, and a full walk.
-- A kind is a test of readings: prenecklace, necklace, lyndon, or a necklace with given counts.
use Rattle.std.specs.Prelude.{ℕ, zero, suc, ◌+◌, ◌≡◌, Bool, ◌&&◌, List, [], ◌∷◌, length, replicate}
use Rattle.std.proofs.Math.Option.{Option, none, some}
use Rattle.words.specs.Order.{before, up_to}
use Rattle.words.specs.Readings.{readings, count, first}
use Rattle.rings.specs.Prenecklace.{prenecklace}

-- the least reading of n and k of the kind, or none
unfoldable pub first_of : (List ℕ → Bool) → ℕ → ℕ → Option (List ℕ)
first_of kind n k = first kind (readings n k)

-- v is of the kind and greater than w
unfoldable pub above_of : (List ℕ → Bool) → List ℕ → List ℕ → Bool
above_of kind w v = before w v && kind v

-- the least reading of the same n and k that is greater than w and of the kind, or none
unfoldable pub next_of : (List ℕ → Bool) → ℕ → List ℕ → Option (List ℕ)
next_of kind k w = first (above_of kind w) (readings (length w) k)

-- u is a prenecklace greater than w and not greater than the answer; where there is no answer, greater than w
unfoldable pub passed : List ℕ → Option (List ℕ) → List ℕ → Bool
passed w (some v) u = above_of prenecklace w u && up_to u v
passed w none u = above_of prenecklace w u

-- the moves from w to the answer: the prenecklaces of the same n and k passed on the way
unfoldable pub moves : ℕ → List ℕ → Option (List ℕ) → ℕ
moves k w answer = count (passed w answer) (readings (length w) k)

-- how many readings of n and k are of the kind
unfoldable pub how_many : (List ℕ → Bool) → ℕ → ℕ → ℕ
how_many kind n k = count kind (readings n k)

-- how many readings of k shades and of 1 to n sectors together are of the kind
unfoldable pub how_many_to : (List ℕ → Bool) → ℕ → ℕ → ℕ
how_many_to kind zero k = 0
how_many_to kind (suc n) k = how_many_to kind n k + how_many kind (suc n) k

-- the all-zero ring of n sectors, the first of all, from which the full walks of the page start
abbrev pub zeros : ℕ → List ℕ
zeros n = replicate n 0

-- a full walk from w: the rings it comes to, each the next of the kind after the one before, until there is none; and the sum of the moves
pub data FullWalk (kind : List ℕ → Bool) (k : ℕ) : List ℕ → List (List ℕ) → ℕ → Type 0 where
  done : {w : List ℕ} → next_of kind k w ≡ none → FullWalk kind k w [] (moves k w none)
  step : {w v : List ℕ} {rings : List (List ℕ)} {m : ℕ} →
      next_of kind k w ≡ some v → FullWalk kind k v rings m → FullWalk kind k w (v ∷ rings) (moves k w (some v) + m)
