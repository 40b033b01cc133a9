-- `test_ending::tell_short` is safe.
use Rattle.words.proofs.Needs.{arith, length-take}
use Rattle.test_ending.proofs.tell_short.Goals as goal

pub slice_bounds-text-end : goal.slice_bounds-text-end
slice_bounds-text-end c = simp length-take (omega (arith, c.say-m.auto))
