-- What the scans over lent sectors promise their callers.
--     NoneAbove s r    no sector of s is above r
--     Scanned s m r    r is the first place of s that is not below m, or the length
use Rattle.std.specs.Prelude.{ℕ, ◌<◌, ◌≤◌, List, length, get_or}

-- no sector of s is above r
abbrev pub NoneAbove : List ℕ → ℕ → Type 0
NoneAbove s r = (i : ℕ) → i < length s → get_or s i 0 ≤ r

-- r is the first place of s that is not below m, or the length of s where all are
pub record Scanned (s : List ℕ) (m r : ℕ) : Type 0 where
  pub within : r ≤ length s
  pub first : (i : ℕ) → i < r → get_or s i 0 < m
  pub here : r < length s → m ≤ get_or s r 0
