-- Counts without the shades that none is counted of, and a reading without the shades above those.
--     CountedTo cs r      r is one above the last shade with a count, or 0
--     Cappable w k        w is no longer than a ring, and there are 1 to 16 shades
--     Capped w k t        t is w up to its first sector that is not below k, and k - 1 from there on
-- That a search with these has the answer of the search with those: proofs/Capping, `capped-next`.
use Rattle.std.specs.Prelude.{ℕ, ◌-◌, ◌<◌, ◌≤◌, ◌≡◌, List, length, get_or}

-- r is one above the last shade with a count, or 0
pub record CountedTo (cs : List ℕ) (r : ℕ) : Type 0 where
  pub within : r ≤ length cs
  pub last : 0 < r → get_or cs (r - 1) 0 ≡ 0 → ⊥
  pub none : (b : ℕ) → r ≤ b → b < length cs → get_or cs b 0 ≡ 0

-- w is no longer than a ring, and there are 1 to 16 shades
pub record Cappable (w : List ℕ) (k : ℕ) : Type 0 where
  pub size : length w ≤ 64
  pub some : 0 < k
  pub shades : k ≤ 16

-- t is w up to its first sector that is not below k, the one at place `at`, and k - 1 from there on
pub record Capped (w : List ℕ) (k : ℕ) (t : List ℕ) : Type 0 where
  pub at : ℕ
  pub long : length t ≡ length w
  pub low : (i : ℕ) → i < at → get_or w i 0 < k
  pub here : at < length w → k ≤ get_or w at 0
  pub kept : (i : ℕ) → i < at → get_or t i 0 ≡ get_or w i 0
  pub top : (i : ℕ) → at ≤ i → i < length w → get_or t i 0 ≡ k - 1
