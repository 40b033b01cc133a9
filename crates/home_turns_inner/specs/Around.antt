-- Where a place stands on a ring, turned on and wrapped once at its end. It serves the code alone.
--     Around n i m r    r is the place i + m on a ring of n places
use Rattle.std.specs.Prelude.{ℕ, ◌+◌, ◌≤◌, ◌<◌, ◌≡◌}

-- r is a place of the ring: i + m, less n where that is past the end
pub record Around (n i m r : ℕ) : Type 0 where
  pub inside : r < n
  pub low : i + m < n → i + m ≡ r
  pub high : n ≤ i + m → i + m ≡ n + r
