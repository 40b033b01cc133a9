-- `packing_unpack_inner::padding_clear` meets its contract: the last byte alone has unused bits.
use Rattle.words.proofs.Plain.{◌-◌, arith, length}
use Rattle.packing_laws.proofs.Lengths.{bits-bytes, spare-lt, packed-some, few_bits}
use Rattle.packing_unpack_inner.proofs.Unpacks.{clear-is}
use Rattle.packing_unpack_inner.proofs.padding_clear.Goals as goal

pub overflow_mul-spare : goal.overflow_mul-spare
overflow_mul-spare c =
    omega (arith, c.requires.4, bits-bytes c.args.width c.args.n, spare-lt c.args.width c.args.n, few_bits c.args.width c.args.n c.requires.1 c.requires.3)

pub overflow_mul-spare-2 : goal.overflow_mul-spare-2
overflow_mul-spare-2 c = omega (arith, few_bits c.args.width c.args.n c.requires.1 c.requires.3)

pub overflow_sub-spare : goal.overflow_sub-spare
overflow_sub-spare c = omega (arith, c.requires.4, bits-bytes c.args.width c.args.n)

pub overflow_sub-l : goal.overflow_sub-l
overflow_sub-l c =
    omega (arith, c.requires.4, packed-some c.args.width c.args.n c.requires.0 c.requires.2)

pub bounds-bytes-l : goal.bounds-bytes-l
bounds-bytes-l c =
    omega (arith, c.requires.4, packed-some c.args.width c.args.n c.requires.0 c.requires.2)

pub overflow_cast-bytes : goal.overflow_cast-bytes
overflow_cast-bytes c = omega (arith, c.type_inv.bytes (length c.args.bytes.now - 1))

pub lower-requires : goal.lower-requires
lower-requires c =
    omega (arith, c.requires.4, bits-bytes c.args.width c.args.n, spare-lt c.args.width c.args.n)

pub returns : goal.returns
returns c =
    clear-is c.args.width c.args.n c.args.bytes.now c.requires.4 c.lower.result c.lower.ensures
