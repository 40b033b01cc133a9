-- What making floats of digits promises.
--     FloatsSay s n xs     the first n of xs are the floats whose bits the digits s write, end to end
use Rattle.std.specs.Prelude.{ℕ, ◌*◌, ◌<◌, ◌≡◌, List, get_or, take, drop, Float}
use Rattle.std.specs.Float.{nan}
use Rattle.desk_spec.specs.Floats.{float_of}

abbrev pub FloatsSay : List ℕ → ℕ → List Float → Type 0
FloatsSay s n xs = (j : ℕ) → j < n → get_or xs j nan ≡ float_of (take 8 (drop (8 * j) s))
