-- `test_density::into` is safe: it lends no more values than there are.
use Rattle.words.proofs.Needs.{arith, length-take}
use Rattle.test_density.proofs.into.Goals as goal

pub slice_bounds-ring_shades-end : goal.slice_bounds-ring_shades-end
slice_bounds-ring_shades-end c = simp length-take (omega arith)
