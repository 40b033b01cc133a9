-- The line of a ring: the number of shades in decimal, a space, and a reading, a lower-case hexadecimal digit a sector. It is read as the words behind a verb of the
-- desk, and a longer line than the desk's cannot be read.
--     most_kept               so many first bytes of a line tell
--     RingLine s q           the line s is the number of shades and the reading q
--     LineWrites x s text    text is the bytes of the record of kind x that the line writes: what the writer's promise leaves
--     LineRefused s r        the line writes none: r is the writer's refusal of its reading, or tells that the line cannot be read
-- That a line writes one text or is refused with one refusal, and never both: proofs/Unique.
use Rattle.std.specs.Prelude.{ℕ, ◌≤◌, ◌≡◌, List, length}
use Rattle.refusal.specs.declared.Refusal.{Refusal}
use Rattle.refusal.specs.declared.Refusal.TheVariants.{Line}
use Rattle.refusal.specs.Order.{Given}
use Rattle.refusal.specs.Calls.{one_reading}
use Rattle.record_spec.specs.declared.Kind.{Kind}
use Rattle.desk_spec.specs.Questions.{ReadsReading}
use Rattle.desk_spec.specs.Answers.{longest_line}
use Rattle.files_spec.specs.Shows.{Filled}

abbrev pub most_kept : ℕ
most_kept = 4096

pub record RingLine (s : List ℕ) (q : ℕ × List ℕ) : Type 0 where
  pub within : length s ≤ longest_line
  pub reads : ReadsReading s q

pub record LineWrites (x : Kind) (s text : List ℕ) : Type 0 where
  pub asked : ℕ × List ℕ
  pub reads : RingLine s asked
  pub writes : Filled asked.1 asked.0 x text

pub data LineRefused (s : List ℕ) (r : Refusal) : Type 0 where
  unread : ((q : ℕ × List ℕ) → RingLine s q → ⊥) → r ≡ Line → LineRefused s r
  given : (q : ℕ × List ℕ) → RingLine s q → Given (one_reading q.1 q.0) r → LineRefused s r
