-- What taking a byte of the lines promises, and their end. u is what is kept of the line under way before, l' what the lent line holds afterwards; b is the buffer before, b'
-- afterwards; n lines ended before.
--     most_ended   fewer lines have ended
--     LinedByte   one byte c: a newline has the line's record placed, and counts; any other byte is added to the line
--     LinedEnd    the end of the input: the record of a last line without newline, or why it is refused
use Rattle.std.specs.Prelude.{ℕ, ◌+◌, ◌<◌, ◌≤◌, ◌≡◌, List, [], ◌∷◌, length, take, Result, Ok, Err}
use Rattle.text_spec.specs.Ascii.{newline}
use Rattle.record_spec.specs.declared.Kind.{Kind}
use Rattle.stream_spec.specs.Lines.{ended}
use Rattle.stream_spec.specs.Blocks.{ByteSays, EndSays}
use Rattle.files_text_inner.specs.Room.{record_room}
use Rattle.files_write_spec.specs.RingLines.{most_kept, LineWrites, LineRefused}
use Rattle.files_write_byte_inner.specs.declared.Lined.{Lined}
use Rattle.files_write_byte_inner.specs.declared.BadLine.{BadLine}

abbrev pub most_ended : ℕ
most_ended = 9223372036854775808

abbrev pub LinedByte : Kind → List ℕ → ℕ → ℕ → List ℕ → ℕ → Result Lined BadLine → List ℕ → List ℕ → Type 0
LinedByte x u at c b n (Ok v) l' b' = (v.len ≤ length l') × ByteSays (LineWrites x) most_kept record_room u at c b (take v.len l') v.at b' × (v.lines ≡ n + length (ended [] (c ∷ [])))
LinedByte x u at c b n (Err r) l' b' = (c ≡ newline) × LineRefused u r.why × (r.number ≡ n + 1)

abbrev pub LinedEnd : Kind → List ℕ → List ℕ → ℕ → Result Lined BadLine → List ℕ → Type 0
LinedEnd x u b n (Ok v) b' = EndSays (LineWrites x) u b v.at b' × (v.len ≡ 0) × (v.lines ≡ n)
LinedEnd x u b n (Err r) b' = (0 < length u) × LineRefused u r.why × (r.number ≡ n + 1)
