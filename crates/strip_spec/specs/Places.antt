-- Where a reading stands on a strip whose end is joined to its start (02, request l).
--     window n s p       the n neighbouring sectors of s from place p on, round the end where they run past it
--     occurrences s w    at how many places of s the reading w stands
--     OnceEach n k s     each reading of n and k stands at exactly one place of s
--     OnePlace s w p     p is the one place of s at which w stands
-- That both hold of the strip of n and k: `strip_laws`, proofs/Once.
use Rattle.std.specs.Prelude.{ℕ, ◌+◌, ◌%◌, ◌<◌, ◌≡◌, List, length, get_or}
use Rattle.words.specs.Search.{tab}
use Rattle.words.specs.Order.{same}
use Rattle.words.specs.Readings.{Reading}
use Rattle.word_list_spec.specs.Passing.{count_below}

-- n neighbouring sectors from place p on, round the end
unfoldable pub window : ℕ → List ℕ → ℕ → List ℕ
window n s p = tab n (λ h. get_or s ((p + h) % length s) 0)

-- at how many places of s w stands
unfoldable pub occurrences : List ℕ → List ℕ → ℕ
occurrences s w = count_below (length s) (λ p. same (window (length w) s p) w)

-- each reading of n and k stands at exactly one place of s
abbrev pub OnceEach : ℕ → ℕ → List ℕ → Type 0
OnceEach n k s = (w : List ℕ) → Reading n k w → occurrences s w ≡ 1

-- w stands at the place p of s, and at no other
pub record OnePlace (s w : List ℕ) (p : ℕ) : Type 0 where
  pub within : p < length s
  pub stands : window (length w) s p ≡ w
  pub only : (q : ℕ) → q < length s → window (length w) s q ≡ w → q ≡ p
