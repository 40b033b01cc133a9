-- How many lines an input has, said without cutting it (02, request f).
--     newlines s      how many bytes of s are newlines
--     ends_open s      bytes follow the last newline: s has a last byte, and it is no newline
-- That an input has `newlines` lines, and one more where it ends open: proofs/LineCount.
use Rattle.std.specs.Prelude.{ℕ, ◌+◌, Bool, false, not, List, [], ◌∷◌, eqb}
use Rattle.words.specs.Readings.{bit}
use Rattle.text_spec.specs.Ascii.{newline}

unfoldable pub newlines : List ℕ → ℕ
newlines [] = 0
newlines (b ∷ s) = bit (eqb b newline) + newlines s

unfoldable pub ends_open : List ℕ → Bool
ends_open [] = false
ends_open (b ∷ []) = not (eqb b newline)
ends_open (b ∷ c ∷ s) = ends_open (c ∷ s)
