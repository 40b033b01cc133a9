-- `packing_bits_inner::byte_of` meets its contract.
use Rattle.words.proofs.Plain.{arith, refl}
use Rattle.packing_spec.specs.Packing.{byte_of}
use Rattle.packing_laws.proofs.Lengths.{few_bits}
use Rattle.packing_bits_inner.proofs.byte_of.Goals as goal

pub overflow_mul-result : goal.overflow_mul-result
overflow_mul-result c = omega (arith, few_bits c.args.width c.args.i c.requires.0 c.requires.1)

pub returns : goal.returns
unfolding byte_of
returns c = refl
