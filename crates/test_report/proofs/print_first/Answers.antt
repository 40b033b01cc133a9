-- `test_report::print_first` is safe and ends.
use Rattle.words.proofs.Needs.{arith, length-take}
use Rattle.test_report.proofs.print_first.Goals as goal

pub slice_bounds-text-end : goal.slice_bounds-text-end
slice_bounds-text-end c = simp length-take (omega arith)
