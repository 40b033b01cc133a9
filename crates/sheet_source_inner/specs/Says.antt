-- What the functions promise.
--     is_own a             the rings are one's own
--     BehindLine s e r    what stands behind the line that ends at e begins at r
use Rattle.std.specs.Prelude.{ℕ, ◌+◌, ◌≤◌, ◌≡◌, Bool, true, false, List, length, drop}
use Rattle.sheet_spec.specs.declared.Source.{Source}
use Rattle.sheet_spec.specs.declared.Source.TheVariants as S

abbrev pub is_own : Source → Bool
is_own S.Guarded = false
is_own S.Plain = false
is_own S.Own = true

pub record BehindLine (s : List ℕ) (e r : ℕ) : Type 0 where
  pub within : r ≤ length s
  pub same : drop r s ≡ drop (e + 1) s
