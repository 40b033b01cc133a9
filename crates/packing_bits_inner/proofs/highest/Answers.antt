-- `packing_bits_inner::highest` meets its contract: moved up by the bits that are missing, a number of `held` bits is one of eight.
use Rattle.words.proofs.Needs.{◌-◌, arith}
use Rattle.packing_laws.proofs.Moving.{held-lt}
use Rattle.packing_bits_inner.proofs.Shifts.{shifted, raised_lt}
use Rattle.packing_bits_inner.proofs.highest.Goals as goal

pub overflow_cast-result : goal.overflow_cast-result
overflow_cast-result c =
    rw (shifted c.args.rest (8 - c.args.held) (held-lt c.args.rest c.args.held c.requires.1 c.requires.0) (omega arith)) (omega (arith, raised_lt c.args.rest c.args.held c.requires.0 c.requires.1))

pub returns : goal.returns
returns c =
    shifted c.args.rest (8 - c.args.held) (held-lt c.args.rest c.args.held c.requires.1 c.requires.0) (omega arith)
