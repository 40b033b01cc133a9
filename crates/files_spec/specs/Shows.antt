-- What a record of a catalogue shows, and what stands behind the last one, by what the catalogue is gone through for.
--     other_kind x               the other of the two forms
--     line_form x                the text of a record's line, with a slot for each number and for the ring
--     record_line s x n k w      67 packed 6 2 001101: the place, the form, n, k and the ring, a hexadecimal digit a sector
--     Filled w k x text         text is what the writer leaves of the ring w in k shades, in the form x, in a buffer that has just the room
--     Shows j s n k x w text    text is what the record at s shows, where the reader answered n, k, x and the ring w
--     last_text j v              what stands behind the last record: of a telling `end`, or the number and the place of the first damage
use Rattle.std.specs.Prelude.{ℕ, ◌≡◌, List, [], ◌∷◌, length, Result, Ok, Err}
use Rattle.text_spec.specs.Ascii.{ascii}
use Rattle.text_spec.specs.Text.{two_numbers}
use Rattle.text_fill_spec.specs.Filled.{filled_text}
use Rattle.refusal.specs.declared.Refusal.{Refusal}
use Rattle.refusal.specs.Numbers.{number_of, place_of}
use Rattle.record_spec.specs.declared.Kind.{Kind}
use Rattle.record_spec.specs.declared.Kind.TheVariants.{Front, Packed}
use Rattle.record_spec.specs.Writes.{WriteSays}
use Rattle.files_spec.specs.declared.Job.{Job}
use Rattle.files_spec.specs.declared.Job.TheVariants.{Read, Move}

abbrev pub other_kind : Kind → Kind
other_kind Front = Packed
other_kind Packed = Front

abbrev pub line_form : Kind → List ℕ
line_form Front = ascii "% front % % @\n"
line_form Packed = ascii "% packed % % @\n"

-- a line a record
abbrev pub record_line : ℕ → Kind → ℕ → ℕ → List ℕ → List ℕ
record_line s x n k w = filled_text (line_form x) (s ∷ n ∷ k ∷ []) n w

-- a record's own bytes, by the writer's promise
pub record Filled (w : List ℕ) (k : ℕ) (x : Kind) (text : List ℕ) : Type 0 where
  pub room : List ℕ
  pub same : length room ≡ length text
  pub written : WriteSays w k x room 0 (Ok (length text)) text

abbrev pub Shows : Job → ℕ → ℕ → ℕ → Kind → List ℕ → List ℕ → Type 0
Shows Read s n k x w text = text ≡ record_line s x n k w
Shows Move s n k x w text = Filled w k (other_kind x) text

unfoldable pub last_text : Job → Result Unit Refusal → List ℕ
last_text Read (Ok _) = ascii "end\n"
last_text Read (Err r) = two_numbers (ascii "refused ") (number_of r) (ascii " at ") (place_of r)
last_text Move v = []
