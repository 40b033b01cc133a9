-- Words of eight digits.
--     AllEight u l m b    whether words that are spelt end to end, the last from place l to place m, are three or more, of eight digits each
use Rattle.std.specs.Prelude.{ℕ, ◌-◌, ◌≤◌, ◌≡◌, Bool, true, false, List}
use Rattle.desk_rings_inner.specs.Says.{EachSays}

abbrev pub AllEight : List ℕ → ℕ → ℕ → Bool → Type 0
AllEight u l m true = (m - l ≡ 8) × (24 ≤ m) × EachSays u 8 true
AllEight u l m false = m - l ≡ 8 → 24 ≤ m → EachSays u 8 false
