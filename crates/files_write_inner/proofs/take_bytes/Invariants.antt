-- `files_write_inner::take_bytes` meets its contract. The loop's invariant: the records of the lines that end in the first bytes stand in the buffer, the line under way
-- is held, and n lines have ended.
use Rattle.words.proofs.Needs.{◌+◌, ◌-◌, ◌≤◌, ◌≡◌, length, take}
use Rattle.stream_spec.specs.Lines.{ended}
use Rattle.stream_spec.proofs.Taking.{Taking}
use Rattle.files_text_inner.specs.Room.{record_room}
use Rattle.files_write_spec.specs.RingLines.{most_kept, LineWrites}
use Rattle.files_write_inner.proofs.take_bytes.Given as goal

abbrev pub invariant-loop-b : goal.invariant-loop-b
invariant-loop-b l =
    (length l.line ≡ most_kept)
    × (l.lined.len ≤ most_kept)
    × Taking (LineWrites l.kind) most_kept record_room (take l.len l.initial.line) l.block l.initial.buf l.b-index (take l.lined.len l.line) l.lined.at l.buf
    × (length l.buf ≡ length l.initial.buf)
    × (l.lined.lines ≡ l.lines + length (ended (take l.len l.initial.line) (take l.b-index l.block)))
    × (l.lined.lines ≤ l.lines + l.b-index)
