-- `test_set::print` is safe.
use Rattle.words.proofs.Needs.{arith, length-take}
use Rattle.test_set.proofs.print.Goals as goal

pub slice_bounds-text-end-then-m-buf : goal.slice_bounds-text-end-then-m-buf
slice_bounds-text-end-then-m-buf c = simp length-take (omega arith)
