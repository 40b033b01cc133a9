-- What the lines of an input print, where `Answers line text` says what one line prints, its newline left out.
--     Texts Answers ls text           text is what the lines ls print, one after another
--     Prints Answers s text           text is what the input s prints
--     Tells Answers most              a line prints one text, and only its first `most` bytes tell which; they tell too whether it has any
--     BlockRun Answers most u s text  the input s is taken in blocks, cut anywhere, and ended, where u was kept of a line under way: of such a line only the first
--                                     `most` bytes are kept from a block to the next. text is what the blocks print, one after another
-- That an input prints one text: proofs/Unique. That a run prints what the whole input prints, however it was cut: proofs/Cut.
use Rattle.std.specs.Prelude.{ℕ, ◌<◌, ◌≡◌, List, [], ◌∷◌, ◌++◌, take}
use Rattle.stream_spec.specs.Lines.{ended, under, last_of, lines}

abbrev pub Relation : Type 1
Relation = List ℕ → List ℕ → Type 0

pub data Texts (Answers : Relation) : List (List ℕ) → List ℕ → Type 0 where
  done : Texts Answers [] []
  more : {s t u : List ℕ} {ls : List (List ℕ)} → Answers s t → Texts Answers ls u → Texts Answers (s ∷ ls) (t ++ u)

abbrev pub Prints : Relation → List ℕ → List ℕ → Type 0
Prints Answers s text = Texts Answers (lines s) text

pub record Tells (Answers : Relation) (most : ℕ) : Type 0 where
  pub some : 0 < most
  pub one : (s t u : List ℕ) → Answers s t → Answers s u → t ≡ u
  pub first : (s t : List ℕ) → Answers (take most s) t → Answers s t
  pub kept : (s t : List ℕ) → Answers s t → Answers (take most s) t

pub data BlockRun (Answers : Relation) (most : ℕ) : List ℕ → List ℕ → List ℕ → Type 0 where
  over : {u text : List ℕ} → Texts Answers (last_of u) text → BlockRun Answers most u [] text
  block : {u rest t text : List ℕ} (s : List ℕ) → Texts Answers (ended u s) t → BlockRun Answers most (take most (under u s)) rest text → BlockRun Answers most u (s ++ rest) (t ++ text)
