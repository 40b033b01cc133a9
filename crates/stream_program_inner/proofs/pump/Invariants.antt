-- `stream_program_inner::pump` meets its contract. The measure is the number of reads that are left.
use Rattle.words.proofs.Needs.{◌-◌, ◌≤◌, ◌≡◌, length, take}
use Rattle.stream_kind_inner.specs.Says.{most_of}
use Rattle.stream_program_inner.specs.Says.{TurnsMade}
use Rattle.stream_program_inner.proofs.pump.Given as goal

abbrev pub invariant-loop-kind : goal.invariant-loop-kind
invariant-loop-kind l =
    (length l.block ≡ length l.initial.block)
    × (length l.line ≡ most_of l.kind)
    × (l.len ≤ length l.line)
    × (length l.buf ≡ length l.initial.buf)
    × TurnsMade l.kind l.reads (take l.len l.line)

abbrev pub decreases-loop-kind : goal.decreases-loop-kind
decreases-loop-kind l = 18446744073709551615 - l.reads
