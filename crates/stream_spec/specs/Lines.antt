-- The lines of an input.
--     ended u s          the lines that end in s, each without its newline, where u is the beginning of the first
--     under u s          the line under way behind s
--     last_of u           the line under way is a line, unless it has no bytes
--     lines s            the lines of the input s: nothing after the last newline is no further line, and a last line without newline is one
--     Plain u            u has no newline
--     Plains ls          none of the lines ls has one
--     closed ls          the lines ls, each with a newline behind it, joined
--     Cuts s ls u        s is the lines ls, each with its newline, and behind them u, which has none; no line has a newline in it
-- That an input is cut so in one way, into `ended` and `under`: proofs/Whole.
use Rattle.std.specs.Prelude.{ℕ, ◌≡◌, true, false, List, [], ◌∷◌, ◌++◌, eqb}
use Rattle.text_spec.specs.Ascii.{newline}

-- the lines that end in s
unfoldable pub ended : List ℕ → List ℕ → List (List ℕ)
ended u [] = []
ended u (b ∷ s) = elim (eqb b newline) [ true ↦ u ∷ ended [] s | false ↦ ended (u ++ (b ∷ [])) s ]

-- the line under way behind s
unfoldable pub under : List ℕ → List ℕ → List ℕ
under u [] = u
under u (b ∷ s) = elim (eqb b newline) [ true ↦ under [] s | false ↦ under (u ++ (b ∷ [])) s ]

-- the line under way is a line, unless it has no bytes
unfoldable pub last_of : List ℕ → List (List ℕ)
last_of [] = []
last_of (b ∷ u) = (b ∷ u) ∷ []

-- the lines of an input that goes on with s, where u is the beginning of the first
unfoldable pub lines_from : List ℕ → List ℕ → List (List ℕ)
lines_from u s = ended u s ++ last_of (under u s)

unfoldable pub lines : List ℕ → List (List ℕ)
lines s = lines_from [] s

-- ---- the same, said of the lines and not of how they are found

pub data Plain : List ℕ → Type 0 where
  none : Plain []
  also : {b : ℕ} {u : List ℕ} → (b ≡ newline → ⊥) → Plain u → Plain (b ∷ u)

pub data Plains : List (List ℕ) → Type 0 where
  nones : Plains []
  alsos : {u : List ℕ} {ls : List (List ℕ)} → Plain u → Plains ls → Plains (u ∷ ls)

unfoldable pub closed : List (List ℕ) → List ℕ
closed [] = []
closed (u ∷ ls) = u ++ (newline ∷ closed ls)

pub record Cuts (s : List ℕ) (ls : List (List ℕ)) (u : List ℕ) : Type 0 where
  pub whole : s ≡ closed ls ++ u
  pub plains : Plains ls
  pub plain : Plain u
