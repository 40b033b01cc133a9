-- How a run of the programs that write a catalogue from lines ended, and what is said of that. w is which time it is.
--     line_refused_of w r n            how a run ends where the line n is refused
--     line_failed_of w                 how it ends where a read fails
--     writes_records w                are records written?
--     HandedOn w r                   r: could the records be written? Where none are to be, they could
--     ended_room, ended_text t         what is said, and how long it may be: of a refused line, refused 3 at 2 in line 4; or what any program says
use Rattle.std.specs.Prelude.{ℕ, ◌≡◌, Bool, true, false, List}
use Rattle.refusal.specs.declared.Refusal.{Refusal}
use Rattle.program_ending_inner.specs.declared.Ending.{Ending}
use Rattle.program_ending_inner.specs.declared.Ending.TheVariants as E
use Rattle.program_ending_inner.specs.Text.{ending_text}
use Rattle.program_refusal_spec.specs.Text.{refused_line_text}
use Rattle.files_write_ending_inner.specs.declared.Time.{Time}
use Rattle.files_write_ending_inner.specs.declared.Time.TheVariants.{First, Second}
use Rattle.files_write_ending_inner.specs.declared.Ended.{Ended}
use Rattle.files_write_ending_inner.specs.declared.Ended.TheVariants.{Line, As}

abbrev pub line_refused_of : Time → Refusal → ℕ → Ended
line_refused_of First r n = Line r n
line_refused_of Second r n = As E.Changed

abbrev pub line_failed_of : Time → Ended
line_failed_of First = As E.Unread
line_failed_of Second = As E.Lost

abbrev pub writes_records : Time → Bool
writes_records First = false
writes_records Second = true

abbrev pub HandedOn : Time → Bool → Type 0
HandedOn w r = (writes_records w ≡ false) → r ≡ true

-- ---- what is said

abbrev pub ended_room : ℕ
ended_room = 100

abbrev pub ended_text : Ended → List ℕ
ended_text (Line r n) = refused_line_text r n
ended_text (As t) = ending_text t
