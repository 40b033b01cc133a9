-- `test_density::by_full_card` is safe: it lends no more bytes than there are.
use Rattle.words.proofs.Needs.{arith, length-take}
use Rattle.test_density.proofs.by_full_card.Goals as goal

pub slice_bounds-into-end-2 : goal.slice_bounds-into-end-2
slice_bounds-into-end-2 c = simp length-take (omega arith)
