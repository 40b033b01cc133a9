-- `test_listing::show_page` meets its contract.
use Rattle.words.proofs.Needs.{arith, length-take}
use Rattle.test_listing.proofs.show_page.Goals as goal

pub slice_bounds-write_all-end : goal.slice_bounds-write_all-end
slice_bounds-write_all-end c = simp length-take (omega arith)
