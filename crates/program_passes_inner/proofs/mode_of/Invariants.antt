-- `program_passes_inner::mode_of` meets its contract. The loop's invariant: the digit so far is the one before the bytes that are left.
use Rattle.words.proofs.Needs.{◌≡◌, drop}
use Rattle.program_passes_inner.specs.Record.{mode_said}
use Rattle.program_passes_inner.proofs.mode_of.Given as goal

abbrev pub invariant-loop-here : goal.invariant-loop-here
invariant-loop-here l = mode_said l.mode (drop l.here-index l.flags) ≡ mode_said 0 (drop 14 l.said)
