-- `test_listing::list` is safe: the parts lie inside the case.
use Rattle.words.proofs.Needs.{arith, length-take}
use Rattle.test_listing.proofs.list.Goals as goal

pub slice_bounds-text-end : goal.slice_bounds-text-end
slice_bounds-text-end c = simp length-take (omega arith)
