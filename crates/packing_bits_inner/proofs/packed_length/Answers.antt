-- `packing_bits_inner::packed_length` meets its contract.
use Rattle.words.proofs.Plain.{arith, refl}
use Rattle.packing_spec.specs.Packing.{packed_length}
use Rattle.packing_laws.proofs.Lengths.{few_bits}
use Rattle.packing_bits_inner.proofs.packed_length.Goals as goal

pub overflow_mul-result : goal.overflow_mul-result
overflow_mul-result c = omega (arith, few_bits c.args.width c.args.n c.requires.0 c.requires.1)

pub overflow_add-result : goal.overflow_add-result
overflow_add-result c = omega (arith, few_bits c.args.width c.args.n c.requires.0 c.requires.1)

pub returns : goal.returns
unfolding packed_length
returns c = refl
