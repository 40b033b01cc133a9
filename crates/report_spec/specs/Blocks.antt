-- The report block after block. Of a line under way only the first 9 bytes are kept: no line of k and n has more than 8, its newline included, so that 9 tell that
-- it is malformed, whatever follows.
--     line_room            no line of the report is longer: two numbers of 10 digits, a space, a newline
--     keep u              the first 9 bytes of u
--     line_of p            the line under way of the state p
--     state_of u           the state of the line u under way: its first 9 bytes, then 0
--     bytes_for s b        how many bytes of the block s are taken with the buffer b: as many as it has room for lines, and no more than there are
--     FeedSays            a block is taken: the texts of the lines that end in it stand at the beginning of the buffer, and the rest of the buffer is as it was
--     FinishSays          the end of the input: the text of a line under way; without room for a line nothing is written
--     ReportRun p s text  from the state p on, the input s is fed in blocks, cut anywhere, and ended; text is what stands in the buffers, one after another
-- That these determine the answers and every byte of the buffers: proofs/Unique. That a run prints what the whole input prints, however it was cut:
-- `report_laws`, proofs/Cut.
use Rattle.std.specs.Prelude.{ℕ, ◌-◌, ◌/◌, ◌<◌, ◌≤◌, ◌≡◌, true, false, List, [], ◌++◌, ltb, length, take, drop, replicate}
use Rattle.report_spec.specs.declared.Pending.{Pending}
use Rattle.report_spec.specs.declared.Fed.{Fed}
use Rattle.stream_spec.specs.Lines.{ended, under, last_of}
use Rattle.stream_spec.specs.Texts.{Texts}
use Rattle.report_spec.specs.Lines.{Answers}

abbrev pub line_room : ℕ
line_room = 22

abbrev pub keep : List ℕ → List ℕ
keep u = take 9 u

abbrev pub line_of : Pending → List ℕ
line_of p = take p.len p.line

abbrev pub state_of : List ℕ → Pending
state_of u = record { line = keep u ++ replicate (9 - length (keep u)) 0; len = length (keep u) }

unfoldable pub bytes_for : List ℕ → List ℕ → ℕ
bytes_for s b = elim (ltb (length b / line_room) (length s)) [ true ↦ length b / line_room | false ↦ length s ]

-- the bytes that are taken of a block s, from the state p on, with the buffer b before and b' after
pub record FeedSays (p : Pending) (s b : List ℕ) (r : Fed) (b' : List ℕ) : Type 0 where
  pub text : List ℕ
  pub taken : r.taken ≡ bytes_for s b
  pub says : Texts Answers (ended (line_of p) (take (bytes_for s b) s)) text
  pub state : r.state ≡ state_of (under (line_of p) (take (bytes_for s b) s))
  pub long : r.length ≡ length text
  pub bytes : b' ≡ text ++ drop (length text) b

-- the end of the input
pub data FinishSays (p : Pending) (b : List ℕ) (r : ℕ) (b' : List ℕ) : Type 0 where
  small : length b < line_room → r ≡ 0 → b' ≡ b → FinishSays p b r b'
  last : line_room ≤ length b → (text : List ℕ) → Texts Answers (last_of (line_of p)) text → r ≡ length text → b' ≡ text ++ drop (length text) b → FinishSays p b r b'

-- ---- a run

pub data ReportRun : Pending → List ℕ → List ℕ → Type 0 where
  ends : {p : Pending} {b b' : List ℕ} {r : ℕ} → line_room ≤ length b → FinishSays p b r b' → ReportRun p [] (take r b')
  feeds : {p : Pending} {s b b' rest text : List ℕ} {r : Fed} → FeedSays p s b r b' → ReportRun r.state rest text → ReportRun p (take r.taken s ++ rest) (take r.length b' ++ text)
