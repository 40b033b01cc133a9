-- `files_write_program_inner::run` is safe and ends.
use Rattle.words.proofs.Needs.{arith, length-take}
use Rattle.files_write_program_inner.proofs.run.Goals as goal

pub slice_bounds-write_all-end : goal.slice_bounds-write_all-end
slice_bounds-write_all-end c = simp length-take (omega (arith, c.say_ended-m.ensures.upper_bound))
