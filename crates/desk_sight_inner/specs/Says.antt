-- What looking for a reading among the rings of a line promises, word after word.
--     SeenAmong k e q          what the rings q .0 and the reading q .1 print
--     HeadsSay t r             t is two numbers and words behind them, from some place on; or it is none such
use Rattle.std.specs.Prelude.{ℕ, ◌≤◌, ◌≡◌, List, ◌∷◌, length, drop, Option, Some, None}
use Rattle.text_spec.specs.Ascii.{space}
use Rattle.text_spec.specs.Decimal.{decimal}
use Rattle.text_words_spec.specs.Words.{pieces}
use Rattle.desk_spec.specs.Questions.{ThreeDigits}
use Rattle.desk_spec.specs.Answers.{SeenSays}

abbrev pub SeenAmong : ℕ → ℕ → List (List ℕ) × List ℕ → List ℕ → Type 0
SeenAmong k e q text = SeenSays k e q.0 q.1 text

abbrev pub HeadsSay : List ℕ → Option (ℕ × ℕ × ℕ) → Type 0
HeadsSay t (Some h) = ThreeDigits h.0 × ThreeDigits h.1 × (h.2 ≤ length t) × (pieces space t ≡ decimal h.0 ∷ decimal h.1 ∷ pieces space (drop h.2 t))
HeadsSay t None = (k e : ℕ) (u : List ℕ) (us : List (List ℕ)) → ThreeDigits k → ThreeDigits e → pieces space t ≡ decimal k ∷ decimal e ∷ u ∷ us → ⊥
