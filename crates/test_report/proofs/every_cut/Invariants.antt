-- `test_report::every_cut` is safe and ends. The buffer keeps its length.
use Rattle.words.proofs.Needs.{◌≡◌, length}
use Rattle.test_report.proofs.every_cut.Given as goal

abbrev pub invariant-loop-cut : goal.invariant-loop-cut
invariant-loop-cut l = length l.buf ≡ length l.initial.buf
