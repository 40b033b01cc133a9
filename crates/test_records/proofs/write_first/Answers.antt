-- `test_records::write_first` is safe: the ring has n sectors.
use Rattle.words.proofs.Needs.{arith, length-take}
use Rattle.test_records.proofs.write_first.Goals as goal

pub slice_bounds-write_record-end : goal.slice_bounds-write_record-end
slice_bounds-write_record-end c = simp length-take (omega arith)
