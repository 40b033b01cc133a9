-- `packing_unpack_inner::unpack_into` meets its contract. The loop's invariant: the written sectors and the held bits are the taken bytes as one number.
use Rattle.words.proofs.Plain.{◌-◌, arith, refl}
use Rattle.packing_laws.proofs.Moving.{held-lt}
use Rattle.packing_unpack_inner.proofs.Unpacks.{unpacks-start, unpacks-more, unpacks-taken, unpacks-fits, unpacks-given, unpacks-end}
use Rattle.packing_unpack_inner.proofs.unpack_into.Goals as goal

pub loop-j-init : goal.loop-j-init
loop-j-init c = unpacks-start _ _ _ _ c.requires.0 c.requires.1 refl

pub bounds-bytes-i : goal.bounds-bytes-i
bounds-bytes-i c = unpacks-more _ _ _ _ _ _ _ _ c.loop-j.invariant (omega arith) (omega arith)

pub appended-rest-requires : goal.appended-rest-requires
appended-rest-requires c = (omega (arith, held-lt _ _ c.loop-j.invariant.moved.held (omega (arith, c.loop-j.invariant.narrow))), omega arith)

pub overflow_add-held : goal.overflow_add-held
overflow_add-held c = omega (arith, c.loop-j.invariant.few, c.loop-j.invariant.narrow)

pub overflow_add-i : goal.overflow_add-i
overflow_add-i c = omega (arith, unpacks-more _ _ _ _ _ _ _ _ c.loop-j.invariant (omega arith) (omega arith))

pub loop-j-smaller-then-held-width : goal.loop-j-smaller-then-held-width
loop-j-smaller-then-held-width c = omega (arith, unpacks-more _ _ _ _ _ _ _ _ c.loop-j.invariant (omega arith) (omega arith))

pub loop-j-preserved-then-held-width : goal.loop-j-preserved-then-held-width
loop-j-preserved-then-held-width c =
    unpacks-taken _ _ _ _ _ _ _ _ c.loop-j.invariant (omega arith) (omega arith) (c.type_inv.bytes c.loop-j.i).fits _ c.appended-rest.ensures

pub upper-requires : goal.upper-requires
upper-requires c = (omega (arith, c.loop-j.invariant.few), unpacks-fits _ _ _ _ _ _ _ _ c.loop-j.invariant (omega arith))

pub bounds-out-j : goal.bounds-out-j
bounds-out-j c = omega (arith, c.loop-j.invariant.long)

pub lower-rest-requires : goal.lower-rest-requires
lower-rest-requires c = omega (arith, c.loop-j.invariant.few)

pub overflow_add-j : goal.overflow_add-j
overflow_add-j c = omega arith

pub loop-j-smaller : goal.loop-j-smaller
loop-j-smaller c = omega arith

pub loop-j-preserved : goal.loop-j-preserved
loop-j-preserved c = unpacks-given _ _ _ _ _ _ _ _ c.loop-j.invariant (omega arith) (omega arith) _ _ c.upper.ensures c.lower-rest.ensures

pub shape_of-out : goal.shape_of-out
shape_of-out c = c.loop-j.invariant.long

pub returns : goal.returns
returns c = unpacks-end _ _ _ _ _ _ _ _ c.loop-j.invariant (omega arith)
