-- `test_report::run` is safe and ends.
use Rattle.words.proofs.Needs.{arith, length-take}
use Rattle.test_report.proofs.run.Goals as goal

pub slice_bounds-line_of_feed-end : goal.slice_bounds-line_of_feed-end
slice_bounds-line_of_feed-end c = simp length-take (omega arith)

pub slice_bounds-end-end : goal.slice_bounds-end-end
slice_bounds-end-end c = simp length-take (omega arith)
