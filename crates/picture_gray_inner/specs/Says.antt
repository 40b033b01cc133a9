-- What the two tones promise: r is the gray of shade s of k.
--     Managed k s r, Levels k s r
use Rattle.std.specs.Prelude.{ℕ, ◌≡◌}
use Rattle.picture_spec.specs.declared.Tone.TheVariants as T
use Rattle.picture_spec.specs.Gray.{gray}

abbrev pub Managed : ℕ → ℕ → ℕ → Type 0
Managed k s r = r ≡ gray T.Managed k s

abbrev pub Levels : ℕ → ℕ → ℕ → Type 0
Levels k s r = r ≡ gray T.Levels k s
