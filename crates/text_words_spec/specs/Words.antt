-- The words of a line, and readings spelt by digits.
--     pieces sep s     the pieces of s between the separators: one more than there are separators, and a piece may be empty
--     PieceAt sep s r  the first piece of s ends at the place r: that of the first separator, or the length of s where there is none
--     Nibbles w        each sector is below 16, so that a digit spells it
--     Spelt t w        the text t spells the reading w, a lower-case hexadecimal digit for each sector
-- The words of a line are its pieces between spaces, so that two spaces side by side, or one at the end, have an empty word between or behind them.
-- That a text spells one reading: proofs/Spelling. Pieces one after another: proofs/Pieces.
use Rattle.std.specs.Prelude.{ℕ, ◌<◌, ◌≤◌, ◌≡◌, true, false, List, [], ◌∷◌, map, eqb, length, get_or}
use Rattle.text_spec.specs.Text.{hex_of}

-- a character in front of the first piece
unfoldable pub onto : ℕ → List (List ℕ) → List (List ℕ)
onto a [] = (a ∷ []) ∷ []
onto a (u ∷ us) = (a ∷ u) ∷ us

unfoldable pub pieces : ℕ → List ℕ → List (List ℕ)
pieces sep [] = [] ∷ []
pieces sep (a ∷ s) = elim (eqb a sep) [ true ↦ [] ∷ pieces sep s | false ↦ onto a (pieces sep s) ]

pub record PieceAt (sep : ℕ) (s : List ℕ) (r : ℕ) : Type 0 where
  pub within : r ≤ length s
  pub before : (i : ℕ) → i < r → get_or s i 0 ≡ sep → ⊥
  pub here : r < length s → get_or s r 0 ≡ sep

abbrev pub Nibbles : List ℕ → Type 0
Nibbles w = (i : ℕ) → i < length w → get_or w i 0 < 16

pub record Spelt (t w : List ℕ) : Type 0 where
  pub digits : t ≡ map hex_of w
  pub below : Nibbles w
