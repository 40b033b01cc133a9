-- `packing_bits_inner::appended` meets its contract. A shift of a byte by up to 8 loses nothing.
use Rattle.words.proofs.Needs.{arith}
use Rattle.packing_bits_inner.proofs.Shifts.{shifted, shifted-lt}
use Rattle.packing_bits_inner.proofs.appended.Goals as goal

pub overflow_add-result : goal.overflow_add-result
overflow_add-result c =
    rw (shifted c.args.rest c.args.width c.requires.0 c.requires.1) (omega (arith, shifted-lt c.args.rest c.args.width c.requires.0 c.requires.1))

pub returns : goal.returns
returns c = rw (shifted c.args.rest c.args.width c.requires.0 c.requires.1)
