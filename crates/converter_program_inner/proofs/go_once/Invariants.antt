-- `converter_program_inner::go_once` meets its contract. What is done so far are good records, and each block that is not the last has a whole one, so
-- that the next begins further on.
use Rattle.words.proofs.Needs.{◌-◌, ◌<◌, ◌≡◌, length}
use Rattle.program_passes_inner.specs.Passes.{limit}
use Rattle.converter_pass_inner.specs.Says.{BuffersFit}
use Rattle.converter_program_inner.specs.Says.{Reached}
use Rattle.converter_program_inner.proofs.go_once.Given as goal

abbrev pub invariant-loop-used : goal.invariant-loop-used
invariant-loop-used l =
    BuffersFit l.block l.new × (length l.block ≡ length l.initial.block) × (length l.new ≡ length l.initial.new) × (l.at < limit) × Reached l.writing l.at

abbrev pub decreases-loop-used : goal.decreases-loop-used
decreases-loop-used l = limit - l.at
