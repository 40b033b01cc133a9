-- `test_listing::limited` is safe: the parts lie inside the case.
use Rattle.words.proofs.Needs.{arith, length-take}
use Rattle.test_listing.proofs.limited.Goals as goal

pub slice_bounds-plan-end : goal.slice_bounds-plan-end
slice_bounds-plan-end c = simp length-take (omega arith)
