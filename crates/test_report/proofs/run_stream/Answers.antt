-- `test_report::run_stream` is safe and ends.
use Rattle.words.proofs.Needs.{arith, length-take}
use Rattle.test_report.proofs.run_stream.Goals as goal

pub slice_bounds-as_taken-end : goal.slice_bounds-as_taken-end
slice_bounds-as_taken-end c = simp length-take (omega arith)
