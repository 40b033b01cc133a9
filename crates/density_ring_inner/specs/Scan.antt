-- What the search for a value without a shade answers. It serves the code alone.
--     Readable xs       each value has a shade
--     FirstBare xs r    the value at r has no shade, and each before it has one
use Rattle.std.specs.Prelude.{ℕ, ◌<◌, List, length, get_or, Float}
use Rattle.std.specs.Float.{nan}
use Rattle.density_spec.specs.Cuts.{In}

abbrev pub Readable : List Float → Type 0
Readable xs = (i : ℕ) → i < length xs → In (get_or xs i nan)

pub record FirstBare (xs : List Float) (r : ℕ) : Type 0 where
  pub within : r < length xs
  pub before : (i : ℕ) → i < r → In (get_or xs i nan)
  pub here : In (get_or xs r nan) → ⊥
