-- What placing the record of a line promises. b is the buffer before, b' afterwards.
--     SpeltRefused k t r          t spells no reading, or one that is refused with r
--     RingSpelt x k t b at r b'   the record of the reading that t spells, in k shades, stands in the buffer from `at` on; or why not, and the buffer is as it was
--     LineSays x s b at r b'      the same of the line s
use Rattle.std.specs.Prelude.{ℕ, ◌≡◌, List, Result, Ok, Err}
use Rattle.text_words_spec.specs.Words.{Spelt}
use Rattle.refusal.specs.declared.Refusal.{Refusal}
use Rattle.refusal.specs.declared.Refusal.TheVariants.{Line}
use Rattle.refusal.specs.Order.{Given}
use Rattle.refusal.specs.Calls.{one_reading}
use Rattle.record_spec.specs.declared.Kind.{Kind}
use Rattle.stream_spec.specs.Blocks.{Puts}
use Rattle.files_spec.specs.Shows.{Filled}
use Rattle.files_text_inner.specs.Room.{record_room}
use Rattle.files_write_spec.specs.RingLines.{LineWrites, LineRefused}

pub data SpeltRefused (k : ℕ) (t : List ℕ) (r : Refusal) : Type 0 where
  unspelt : ((w : List ℕ) → Spelt t w → ⊥) → r ≡ Line → SpeltRefused k t r
  refused : (w : List ℕ) → Spelt t w → Given (one_reading w k) r → SpeltRefused k t r

abbrev pub RingSpelt : Kind → ℕ → List ℕ → List ℕ → ℕ → Result ℕ Refusal → List ℕ → Type 0
RingSpelt x k t b at (Ok e) b' = (w : List ℕ) × Spelt t w × Puts (Filled w k x) record_room b at e b'
RingSpelt x k t b at (Err r) b' = SpeltRefused k t r × (b' ≡ b)

abbrev pub LineSays : Kind → List ℕ → List ℕ → ℕ → Result ℕ Refusal → List ℕ → Type 0
LineSays x s b at (Ok e) b' = Puts (LineWrites x s) record_room b at e b'
LineSays x s b at (Err r) b' = LineRefused s r × (b' ≡ b)
