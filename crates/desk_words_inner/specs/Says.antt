-- What reading the first word promises.
--     ReadsBoth t q     t is two readings, one space between them
--     SpeltBoth v k q   what the question about them prints; BothAsked v k s t, the same where s and t are their digits
--     HeadAtSays sep t r    t is a number, a separator and what stands behind it; or there is no number with a piece behind it
--     HeadSays t r      the same of words, between spaces
use Rattle.std.specs.Prelude.{ℕ, ◌<◌, ◌≤◌, ◌≡◌, List, [], ◌∷◌, map, length, drop, Option, Some, None}
use Rattle.text_spec.specs.Ascii.{space}
use Rattle.text_spec.specs.Decimal.{decimal}
use Rattle.text_spec.specs.Text.{hex_of}
use Rattle.text_words_spec.specs.Words.{pieces, Nibbles, Spelt}
use Rattle.desk_spec.specs.declared.Both.{Both}
use Rattle.desk_spec.specs.Questions.{ThreeDigits, Replies}
use Rattle.desk_spec.specs.Answers.{BothSays}

abbrev pub HeadAtSays : ℕ → List ℕ → Option (ℕ × ℕ) → Type 0
HeadAtSays sep t (Some h) = ThreeDigits h.0 × (h.1 ≤ length t) × (pieces sep t ≡ decimal h.0 ∷ pieces sep (drop h.1 t)) × (0 < h.1)
HeadAtSays sep t None = (k : ℕ) (u : List ℕ) (us : List (List ℕ)) → ThreeDigits k → pieces sep t ≡ decimal k ∷ u ∷ us → ⊥

abbrev pub HeadSays : List ℕ → Option (ℕ × ℕ) → Type 0
HeadSays t r = HeadAtSays space t r

-- two readings
pub record ReadsBoth (t : List ℕ) (q : List ℕ × List ℕ) : Type 0 where
  pub sectors : Nibbles q.0
  pub others : Nibbles q.1
  pub words : pieces space t ≡ map hex_of q.0 ∷ map hex_of q.1 ∷ []

abbrev pub SpeltBoth : Both → ℕ → List ℕ × List ℕ → List ℕ → Type 0
SpeltBoth v k q text = BothSays v k q.0 q.1 text

abbrev pub BothAsked : Both → ℕ → List ℕ → List ℕ → List ℕ → Type 0
BothAsked v k s t text = Replies {Q = List ℕ × List ℕ} (λ q. Spelt s q.0 × Spelt t q.1) (SpeltBoth v k) text
