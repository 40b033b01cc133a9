-- The next ring of given counts.
--     Finds w n k cs r   r is the next ring of these counts above the first n sectors of w, where there is one
use Rattle.std.specs.Prelude.{ℕ, ◌≡◌, true, false, List, take}
use Rattle.std.proofs.Math.Option.{none, some}
use Rattle.rings.specs.Counts.{counted_necklace}
use Rattle.rings.specs.Steps.{next_of}
use Rattle.shades_next_inner.specs.declared.Sought.{Sought}
use Rattle.shades_next_inner.specs.Raised.{raised_to}

-- the next ring of these counts above the first n sectors of w, or that there is none, and how many places were raised to find it: none where there is none. So at most n
-- (proofs/Seeking, `answers-soon`).
pub record Finds (w : List ℕ) (n k : ℕ) (cs : List ℕ) (r : Sought) : Type 0 where
  pub ring : r.some ≡ true → next_of (counted_necklace cs) k (take n w) ≡ some (take n r.ring)
  pub raised : r.some ≡ true → r.raised ≡ raised_to (take n w) (take n r.ring)
  pub done : r.some ≡ false → next_of (counted_necklace cs) k (take n w) ≡ none
  pub unraised : r.some ≡ false → r.raised ≡ 0
