-- What shade counts leave beside some sectors.
--     Remains cs u rem    rem is what the counts leave beside u
--     Exceeds cs u        some shade stands in u more often than the counts allow
--     Fittable cs s       there are at most 16 counts, and each sector of s has one
--     Fitted cs s r       how far s fits into the counts, and what they leave beside that
use Rattle.std.specs.Prelude.{ℕ, suc, ◌+◌, ◌<◌, ◌≤◌, ◌≡◌, List, length, get_or, take}
use Rattle.rings.specs.Counts.{occurs}
use Rattle.shades_tally_inner.specs.declared.Fit.{Fit}

-- rem is what the counts leave beside u
pub record Remains (cs u rem : List ℕ) : Type 0 where
  pub size : length rem ≡ 16
  pub left : (b : ℕ) → b < length cs → get_or rem b 0 + occurs b u ≡ get_or cs b 0
  pub past : (b : ℕ) → length cs ≤ b → get_or rem b 0 ≡ 0

-- some shade stands in u more often than the counts allow
pub record Exceeds (cs u : List ℕ) : Type 0 where
  pub shade : ℕ
  pub known : shade < length cs
  pub often : get_or cs shade 0 < occurs shade u

-- there are at most 16 counts, and each sector of s has one
pub record Fittable (cs s : List ℕ) : Type 0 where
  pub few : length cs ≤ 16
  pub known : (i : ℕ) → i < length s → get_or s i 0 < length cs

-- how far s fits into the counts, and what they leave beside that
pub record Fitted (cs s : List ℕ) (r : Fit) : Type 0 where
  pub within : r.end ≤ length s
  pub remains : Remains cs (take r.end s) r.rem
  pub exceeds : r.end < length s → Exceeds cs (take (suc r.end) s)
