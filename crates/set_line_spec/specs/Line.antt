-- The line of a chart job (02, 'g'): n, k, d and the wanted number in decimal, written as the listing program's line writes its two: one space between two of them, one to
-- three digits each, no leading zero, the newline optional; anything else is malformed.
--     four_fields n k d want      the four numbers, one space between two of them
--     SpellsSet s n k d want     s is that line, with or without a newline at its end, and each number has at most three digits
--     SpellSays s p              what the answer p to the line s promises
-- and what the parts of the parser promise: FourSays, SecondSpace. That no line has two answers, and none more than 16 characters: proofs/Four.
use Rattle.std.specs.Prelude.{ℕ, ◌+◌, ◌<◌, ◌≤◌, ◌≡◌, ◌⊎◌, List, [], ◌∷◌, ◌++◌, length, drop, Option, None, Some}
use Rattle.text_spec.specs.Ascii.{space, newline}
use Rattle.line_spec.specs.Line.{fields, SpaceAt}

-- the four numbers
unfoldable pub four_fields : ℕ → ℕ → ℕ → ℕ → List ℕ
four_fields n k d want = fields n k ++ (space ∷ fields d want)

-- each has at most three digits
pub record Short (n k d want : ℕ) : Type 0 where
  pub n-short : n < 1000
  pub k-short : k < 1000
  pub d-short : d < 1000
  pub want-short : want < 1000

-- s is the line of the four numbers
pub record SpellsSet (s : List ℕ) (n k d want : ℕ) : Type 0 where
  pub short : Short n k d want
  pub text : (s ≡ four_fields n k d want) ⊎ (s ≡ four_fields n k d want ++ (newline ∷ []))

abbrev pub SpellSays : List ℕ → Option (ℕ × ℕ × ℕ × ℕ) → Type 0
SpellSays s (Some (n, k, d, want)) = SpellsSet s n k d want
SpellSays s None = (n k d want : ℕ) → SpellsSet s n k d want → ⊥

-- ---- the parser's parts

-- the line without its newline
abbrev pub FourSays : List ℕ → Option (ℕ × ℕ × ℕ × ℕ) → Type 0
FourSays t (Some (n, k, d, want)) = Short n k d want × (t ≡ four_fields n k d want)
FourSays t None = (n k d want : ℕ) → Short n k d want → t ≡ four_fields n k d want → ⊥

-- r is the place of the second space of t, or the length of t where there are not two
pub record SecondSpace (t : List ℕ) (r : ℕ) : Type 0 where
  pub first : ℕ
  pub one : SpaceAt t first
  pub none : length t ≤ first → r ≡ length t
  pub next : ℕ
  pub two : first < length t → SpaceAt (drop (first + 1) t) next
  pub is : first < length t → r ≡ first + 1 + next
