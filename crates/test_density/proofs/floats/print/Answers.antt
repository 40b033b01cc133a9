-- `test_density::floats::print` is safe: only a number's pattern is asked for.
use Rattle.desk_floats_inner.proofs.Patterns.{number-bits}
use Rattle.test_density.proofs.floats.print.Goals as goal

pub float_to_bits-x : goal.float_to_bits-x
float_to_bits-x c = number-bits _ c.if-x.false
