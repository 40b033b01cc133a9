-- `test_report::run_cut` is safe and ends.
use Rattle.words.proofs.Needs.{arith, length-take}
use Rattle.test_report.proofs.run_cut.Goals as goal

pub slice_bounds-print_fed-end : goal.slice_bounds-print_fed-end
slice_bounds-print_fed-end c = simp length-take (omega arith)
