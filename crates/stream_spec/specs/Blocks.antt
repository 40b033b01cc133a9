-- What code promises that takes an input block after block. u is what is kept of the line under way before, v what is kept of it afterwards; b is a lent buffer
-- before, b' the same afterwards.
--     Puts P room b at r b'             a text of which P holds stands in the buffer from place `at` on, and is no longer than room; r is the place behind it
--     ByteSays                          one byte c: a newline has the line's text placed, and no line is under way; any other byte is added to the line, of
--                                       which `most` bytes are kept
--     BlockSays                         the bytes s of a block: what the lines print that end in it stands at the beginning of the buffer, r bytes
--     EndSays                           the end of the input: what a last line without newline prints stands there
use Rattle.std.specs.Prelude.{ℕ, ◌≤◌, ◌≡◌, List, [], ◌∷◌, ◌++◌, length, take, drop}
use Rattle.text_spec.specs.Ascii.{newline}
use Rattle.text_spec.specs.Put.{Placed}
use Rattle.stream_spec.specs.Lines.{ended, under, last_of}
use Rattle.stream_spec.specs.Texts.{Relation, Texts}

pub record Puts (P : List ℕ → Type 0) (room : ℕ) (b : List ℕ) (at r : ℕ) (b' : List ℕ) : Type 0 where
  pub text : List ℕ
  pub says : P text
  pub short : length text ≤ room
  pub placed : Placed b at text r b'

pub data ByteSays (Answers : Relation) (most room : ℕ) (u : List ℕ) (at c : ℕ) (b v : List ℕ) (r : ℕ) (b' : List ℕ) : Type 0 where
  ends : c ≡ newline → v ≡ [] → Puts (Answers u) room b at r b' → ByteSays Answers most room u at c b v r b'
  kept : (c ≡ newline → ⊥) → v ≡ take most (u ++ (c ∷ [])) → r ≡ at → b' ≡ b → ByteSays Answers most room u at c b v r b'

pub record BlockSays (Answers : Relation) (most : ℕ) (u s b v : List ℕ) (r : ℕ) (b' : List ℕ) : Type 0 where
  pub text : List ℕ
  pub says : Texts Answers (ended u s) text
  pub line : v ≡ take most (under u s)
  pub long : r ≡ length text
  pub inside : r ≤ length b
  pub bytes : b' ≡ text ++ drop (length text) b

pub record EndSays (Answers : Relation) (u b : List ℕ) (r : ℕ) (b' : List ℕ) : Type 0 where
  pub text : List ℕ
  pub says : Texts Answers (last_of u) text
  pub long : r ≡ length text
  pub inside : r ≤ length b
  pub bytes : b' ≡ text ++ drop (length text) b
