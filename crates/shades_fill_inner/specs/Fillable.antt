-- What filling an output with the letters of shade counts asks for.
--     Fillable w cs    the letters that cs counts have room in w
use Rattle.std.specs.Prelude.{ℕ, ◌≤◌, List, length}
use Rattle.words.specs.Sum.{sum_of}

-- the letters that cs counts have room in w
pub record Fillable (w cs : List ℕ) : Type 0 where
  pub room : sum_of cs ≤ length w
  pub size : length w ≤ 64
  pub shades : length cs ≤ 16
