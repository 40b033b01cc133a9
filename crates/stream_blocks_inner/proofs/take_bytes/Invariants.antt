-- `stream_blocks_inner::take_bytes` meets its contract. The loop's invariant, `Taking`: the texts of the lines that end in the first i bytes stand in the
-- buffer, and the line under way is held.
use Rattle.words.proofs.Needs.{◌≤◌, ◌≡◌, length, take}
use Rattle.stream_spec.proofs.Taking.{Taking}
use Rattle.stream_kind_inner.specs.Says.{Said, most_of, room_of}
use Rattle.stream_blocks_inner.proofs.take_bytes.Given as goal

abbrev pub invariant-loop-b : goal.invariant-loop-b
invariant-loop-b l =
    (length l.line ≡ most_of l.kind)
    × (l.m ≤ most_of l.kind)
    × Taking (Said l.kind) (most_of l.kind) (room_of l.kind) (take l.len l.initial.line) l.block l.initial.buf l.b-index (take l.m l.line) l.at l.buf
    × (length l.buf ≡ length l.initial.buf)
