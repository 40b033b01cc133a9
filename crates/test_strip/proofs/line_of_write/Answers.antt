-- `test_strip::line_of_write` is safe: the part that is lent has as many bytes as were asked for.
use Rattle.words.proofs.Needs.{arith, length-take}
use Rattle.test_strip.proofs.line_of_write.Goals as goal

pub slice_bounds-write-end : goal.slice_bounds-write-end
slice_bounds-write-end c = simp length-take (omega arith)
