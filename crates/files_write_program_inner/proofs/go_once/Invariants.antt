-- `files_write_program_inner::go_once` meets its contract: of what was read so far every line that ended writes, and each block has a byte, so that the next begins further on.
use Rattle.words.proofs.Needs.{◌-◌, ◌≤◌, ◌≡◌, length, take}
use Rattle.program_passes_inner.specs.Passes.{limit}
use Rattle.files_write_program_inner.specs.Says.{RoomyLines}
use Rattle.files_write_program_inner.proofs.Turns.{Reached}
use Rattle.files_write_program_inner.proofs.go_once.Given as goal

abbrev pub invariant-loop-at : goal.invariant-loop-at
invariant-loop-at l =
    RoomyLines l.block l.line l.out
    × (length l.block ≡ length l.initial.block)
    × (length l.line ≡ length l.initial.line)
    × (length l.out ≡ length l.initial.out)
    × (l.len ≤ length l.line)
    × Reached l.kind l.at (take l.len l.line) l.lines

abbrev pub decreases-loop-at : goal.decreases-loop-at
decreases-loop-at l = limit - l.at
