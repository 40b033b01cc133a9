-- The line that the listing program reads (01, 'The listing program'): k and n in decimal, one space between them, one to three digits each,
-- no leading zero, the newline optional; anything else is None.
--     fields k n         k, a space and n, in decimal
--     Spells s k n       s is that line, with or without a newline at its end, and k and n have at most three digits
--     ParseSays s p      what the answer p to the line s promises
-- and what the parts of the parser promise: NumberSays, FieldsSays, TwoSays, SpaceAt. That no line has two answers, and none more than 8 characters: proofs/Lines.
use Rattle.std.specs.Prelude.{ℕ, ◌<◌, ◌≡◌, ◌⊎◌, List, [], ◌∷◌, ◌++◌, Option, Some, None}
use Rattle.text_spec.specs.Ascii.{space, newline}
use Rattle.text_spec.specs.Decimal.{decimal}
use Rattle.text_words_spec.specs.Words.{PieceAt}

-- k, a space and n
unfoldable pub fields : ℕ → ℕ → List ℕ
fields k n = decimal k ++ (space ∷ decimal n)

-- s is the line of k and n
pub record Spells (s : List ℕ) (k n : ℕ) : Type 0 where
  pub k-short : k < 1000
  pub n-short : n < 1000
  pub text : (s ≡ fields k n) ⊎ (s ≡ fields k n ++ (newline ∷ []))

abbrev pub ParseSays : List ℕ → Option (ℕ × ℕ) → Type 0
ParseSays s (Some (k, n)) = Spells s k n
ParseSays s None = (k n : ℕ) → Spells s k n → ⊥

-- ---- the parser's parts

-- one number of at most three digits
abbrev pub NumberSays : List ℕ → Option ℕ → Type 0
NumberSays t (Some x) = (x < 1000) × (t ≡ decimal x)
NumberSays t None = (x : ℕ) → x < 1000 → t ≡ decimal x → ⊥

-- the line without its newline
abbrev pub FieldsSays : List ℕ → Option (ℕ × ℕ) → Type 0
FieldsSays t (Some (k, n)) = (k < 1000) × (n < 1000) × (t ≡ fields k n)
FieldsSays t None = (k n : ℕ) → k < 1000 → n < 1000 → t ≡ fields k n → ⊥

-- r is the place of the first space of t, or the length of t where there is none
abbrev pub SpaceAt : List ℕ → ℕ → Type 0
SpaceAt t r = PieceAt space t r

-- two texts that are a number each
abbrev pub TwoSays : List ℕ → List ℕ → Option (ℕ × ℕ) → Type 0
TwoSays a b (Some (k, n)) = (k < 1000) × (n < 1000) × (a ≡ decimal k) × (b ≡ decimal n)
TwoSays a b None = (k n : ℕ) → k < 1000 → n < 1000 → a ≡ decimal k → b ≡ decimal n → ⊥
