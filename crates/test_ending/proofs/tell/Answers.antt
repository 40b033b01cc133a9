-- `test_ending::tell` is safe: the text lies in the buffer.
use Rattle.words.proofs.Needs.{arith, length-take}
use Rattle.program_ending_inner.proofs.Unique.{say-within}
use Rattle.test_ending.proofs.tell.Goals as goal

pub slice_bounds-buf-end : goal.slice_bounds-buf-end
slice_bounds-buf-end c = omega (arith, say-within _ _ _ _ c.say-m.ensures, c.say-m.auto)

pub slice_bounds-text-end : goal.slice_bounds-text-end
slice_bounds-text-end c = simp length-take (omega (arith, say-within _ _ _ _ c.say-m.ensures, c.say-m.auto))
