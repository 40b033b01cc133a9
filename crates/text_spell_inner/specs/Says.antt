-- What the functions promise.
--     DigitSays c r        the value of a digit, None for what is none
--     SpelledSays t r w      where t spells a reading, w is it
-- and `PieceAt` of `text_words_spec`.
use Rattle.std.specs.Prelude.{ℕ, ◌<◌, ◌≡◌, Bool, true, false, List, Option, Some, None}
use Rattle.text_spec.specs.Text.{hex_of}
use Rattle.text_words_spec.specs.Words.{Spelt}

abbrev pub DigitSays : ℕ → Option ℕ → Type 0
DigitSays c (Some r) = (r < 16) × (hex_of r ≡ c)
DigitSays c None = (a : ℕ) → a < 16 → hex_of a ≡ c → ⊥

abbrev pub SpelledSays : List ℕ → Bool → List ℕ → Type 0
SpelledSays t true w = Spelt t w
SpelledSays t false w = (v : List ℕ) → Spelt t v → ⊥
