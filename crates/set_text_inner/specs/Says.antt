-- What is asked of places whose rings are printed.
use Rattle.std.specs.Prelude.{ℕ, ◌≤◌, ◌≡◌, List, length}

-- 32 places of 24 sectors, of which the first t hold readings of n sectors
pub record Rings (p : List ℕ) (n t : ℕ) : Type 0 where
  pub size : length p ≡ 768
  pub short : n ≤ 24
  pub most : t ≤ 32
