-- The text of a listing (01, 'The listing program'): necklaces from the all-zero ring, a line each, between the first line and the last.
--     row k v x                     the line of the ring x that follows v: sectors, moves from v, period
--     rows k v rings                the lines of the rings that follow v, one after another
--     opening k n                   the lines before the first step
--     listing_text k n rings sum     the whole text of a walk by these rings, with this sum of moves
--     Listing k n text              text is the whole listing of k and n
-- Document 01's own listing: proofs/Samples. That k and n have at most one listing and have one, and that its last line has the number of all
-- necklaces and one less than that of all prenecklaces of n and k: listing_laws, proofs/Whole.
use Rattle.std.specs.Prelude.{ℕ, suc, ◌≡◌, List, [], ◌∷◌, ◌++◌, length, replicate}
use Rattle.std.proofs.Math.Option.{some}
use Rattle.rings.specs.Necklace.{necklace, period}
use Rattle.rings.specs.Steps.{moves, FullWalk}
use Rattle.text_spec.specs.Text.{first_line, ring_line, last_line}

-- the line of a ring
unfoldable pub row : ℕ → List ℕ → List ℕ → List ℕ
row k v x = ring_line x (moves k v (some x)) (period x)

-- the lines of the rings that follow v
unfoldable pub rows : ℕ → List ℕ → List (List ℕ) → List ℕ
rows k v [] = []
rows k v (x ∷ rings) = row k v x ++ rows k x rings

-- the all-zero ring
abbrev pub zero_ring : ℕ → List ℕ
zero_ring n = replicate n 0

-- the lines before the first step: k and n, and the all-zero ring with 0 moves
unfoldable pub opening : ℕ → ℕ → List ℕ
opening k n = first_line k n ++ ring_line (zero_ring n) 0 (period (zero_ring n))

-- those lines, a line for each ring, and last the number of all rings and the sum of the moves
unfoldable pub listing_text : ℕ → ℕ → List (List ℕ) → ℕ → List ℕ
listing_text k n rings sum = opening k n ++ (rows k (zero_ring n) rings ++ last_line (suc (length rings)) sum)

-- the whole listing: the text of a full walk by necklaces from the all-zero ring
pub record Listing (k n : ℕ) (text : List ℕ) : Type 0 where
  pub rings : List (List ℕ)
  pub sum : ℕ
  pub walk : FullWalk necklace k (zero_ring n) rings sum
  pub is : text ≡ listing_text k n rings sum
