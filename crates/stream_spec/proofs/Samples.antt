-- The lines of small inputs, worked out by hand.
use Rattle.words.proofs.Plain.{ℕ, ◌≡◌, refl, List, [], ◌∷◌, ◌++◌}
use Rattle.text_spec.specs.Ascii.{ascii}
use Rattle.stream_spec.specs.Lines.{ended, under, last_of, lines_from, lines}

-- no input, a newline alone, a last line with and without newline, a blank line between two, and a carriage return, which is no newline
pub no_lines : lines [] ≡ []
unfolding lines lines_from ended under last_of
no_lines = refl

pub blank : lines (ascii "\n") ≡ [] ∷ []
unfolding lines lines_from ended under last_of
blank = refl

pub closed : lines (ascii "2 4\n") ≡ ascii "2 4" ∷ []
unfolding lines lines_from ended under last_of
closed = refl

pub unended : lines (ascii "2 4") ≡ ascii "2 4" ∷ []
unfolding lines lines_from ended under last_of
unended = refl

pub three : lines (ascii "2 4\n\nx") ≡ ascii "2 4" ∷ [] ∷ ascii "x" ∷ []
unfolding lines lines_from ended under last_of
three = refl

pub returned : lines (ascii "2 4\r\n") ≡ ascii "2 4\r" ∷ []
unfolding lines lines_from ended under last_of
returned = refl
