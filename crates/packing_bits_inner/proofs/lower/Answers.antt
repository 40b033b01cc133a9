-- `packing_bits_inner::lower` meets its contract. A shift of 1 is a power of 2.
use Rattle.words.proofs.Needs.{arith}
use native.Mathlib.Nat.{one-mul}
use lib.Pow.{pow_pos}
use Rattle.packing_bits_inner.proofs.Shifts.{shifted}
use Rattle.packing_bits_inner.proofs.lower.Goals as goal

pub nonzero_rem-result : goal.nonzero_rem-result
nonzero_rem-result c = rw (shifted 1 c.args.held (omega arith) (omega arith), one-mul) (pow_pos c.args.held)

pub returns : goal.returns
returns c = rw (shifted 1 c.args.held (omega arith) (omega arith), one-mul)
