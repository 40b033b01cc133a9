-- `packing_bits_inner::width_of` meets its contract: the leading zeros of k - 1 give its width.
use Rattle.words.proofs.Needs.{arith, sym}
use lib.Count.{leading_le}
use Rattle.packing_laws.proofs.Width.{narrow, width-leading}
use Rattle.packing_bits_inner.proofs.width_of.Goals as goal

pub overflow_sub-result : goal.overflow_sub-result
overflow_sub-result c = leading_le 8 _

pub returns : goal.returns
returns c =
    let e = sym (width-leading c.args.k c.requires.0 (omega (arith, c.requires.1))) in
    record { width = e; narrow = rw e (narrow c.args.k c.requires) }
