-- `test_report::byte_by_byte` is safe and ends. The buffer keeps its length.
use Rattle.words.proofs.Needs.{◌≡◌, length}
use Rattle.test_report.proofs.byte_by_byte.Given as goal

abbrev pub invariant-loop-b : goal.invariant-loop-b
invariant-loop-b l = length l.buf ≡ length l.initial.buf
