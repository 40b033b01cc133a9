-- `files_program_inner::run` is safe and ends.
use Rattle.words.proofs.Needs.{arith, length-take}
use Rattle.program_ending_inner.proofs.Unique.{say-within}
use Rattle.files_program_inner.proofs.run.Goals as goal

pub slice_bounds-out-end : goal.slice_bounds-out-end
slice_bounds-out-end c = omega (arith, say-within _ _ _ _ c.say-m.ensures, c.say-m.auto)

pub slice_bounds-write_all-end : goal.slice_bounds-write_all-end
slice_bounds-write_all-end c = simp length-take (omega (arith, say-within _ _ _ _ c.say-m.ensures, c.say-m.auto))
