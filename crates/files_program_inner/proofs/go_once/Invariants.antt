-- `files_program_inner::go_once` meets its contract. What is done so far are good records, and each block that is not the last has a whole one, so that
-- the next begins further on.
use Rattle.words.proofs.Needs.{◌-◌, ◌<◌, ◌≡◌, length}
use Rattle.program_passes_inner.specs.Passes.{limit}
use Rattle.files_pass_inner.specs.Says.{RoomyFile}
use Rattle.files_program_inner.specs.Says.{FileReached}
use Rattle.files_program_inner.proofs.go_once.Given as goal

abbrev pub invariant-loop-used : goal.invariant-loop-used
invariant-loop-used l =
    RoomyFile l.block l.out × (length l.block ≡ length l.initial.block) × (length l.out ≡ length l.initial.out) × (l.at < limit) × FileReached l.job l.at

abbrev pub decreases-loop-used : goal.decreases-loop-used
decreases-loop-used l = limit - l.at
