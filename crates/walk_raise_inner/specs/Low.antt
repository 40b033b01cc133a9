-- What looking for the place to raise finds. It serves the code alone, which counts places from 0; the page counts them from 1.
use Rattle.std.specs.Prelude.{ℕ, ◌+◌, ◌≡◌, List, Option, Some, None}
use Rattle.rings.specs.Next.{last_low}

-- the place is the last that can be raised; or there is none
abbrev pub LastLow : ℕ → List ℕ → Option ℕ → Type 0
LastLow k s (Some at) = at + 1 ≡ last_low k s
LastLow k s None = last_low k s ≡ 0
