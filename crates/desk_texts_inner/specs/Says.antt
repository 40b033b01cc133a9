-- What placing an answer's text promises.
--     desk_room              no line of the desk is longer: a strip of 4,096 sectors and its newline are the longest
--     longest_ring           a ring of so many sectors has room in any line
--     longest_plain          a text of so many characters has room in any line, whatever its numbers
--     ring_line_text w        ring 0011: the ring w that was asked for
--     done_text              done: there is no next ring
--     LinePrinted b at t r b'   the text t is no longer than desk_room, and stands in the buffer from place `at` on; r is the place behind it
--     Answered P b at r b'      a line of which P holds stands there; or P holds of the line of the refusal r, and nothing is written
--     SaidPrinted b at s r b'   where s is a place, r is that place, and nothing is written; or the line of the refusal s stands there, and r is the place behind it
use Rattle.std.specs.Prelude.{ℕ, ◌≤◌, ◌≡◌, List, [], length, Result, Ok, Err}
use Rattle.text_spec.specs.Ascii.{ascii}
use Rattle.stream_spec.specs.Blocks.{Puts}
use Rattle.refusal.specs.declared.Refusal.{Refusal}
use Rattle.desk_spec.specs.Texts.{plain_text, counted_ring_text, refusal_text}
use Rattle.text_spec.specs.Put.{Placed}

abbrev pub desk_room : ℕ
desk_room = 4160

abbrev pub longest_ring : ℕ
longest_ring = 4096

-- each of its characters may be a number of 20 digits
abbrev pub longest_plain : ℕ
longest_plain = 208

abbrev pub ring_line_text : List ℕ → List ℕ
ring_line_text w = counted_ring_text (ascii "ring @\n") [] w

abbrev pub done_text : List ℕ
done_text = plain_text (ascii "done\n") []

pub record LinePrinted (b : List ℕ) (at : ℕ) (t : List ℕ) (r : ℕ) (b' : List ℕ) : Type 0 where
  pub short : length t ≤ desk_room
  pub placed : Placed b at t r b'

abbrev pub Answered : (List ℕ → Type 0) → List ℕ → ℕ → Result ℕ Refusal → List ℕ → Type 0
Answered P b at (Ok r) b' = Puts P desk_room b at r b'
Answered P b at (Err q) b' = P (refusal_text q) × (b' ≡ b)

abbrev pub SaidPrinted : List ℕ → ℕ → Result ℕ Refusal → ℕ → List ℕ → Type 0
SaidPrinted b at (Ok end) r b' = (r ≡ end) × (b' ≡ b)
SaidPrinted b at (Err q) r b' = LinePrinted b at (refusal_text q) r b'
