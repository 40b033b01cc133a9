-- `packing_unpack_inner::unpack_into` meets its contract. The loop's invariant: the written sectors and the held bits are the taken bytes as one number.
use Rattle.words.proofs.Plain.{◌+◌, ◌-◌, length}
use Rattle.packing_unpack_inner.proofs.Unpacks.{Unpacks}
use Rattle.packing_unpack_inner.proofs.unpack_into.Given as goal

abbrev pub invariant-loop-j : goal.invariant-loop-j
invariant-loop-j l = Unpacks l.width l.bytes l.n l.i l.out l.j l.held l.rest

abbrev pub decreases-loop-j : goal.decreases-loop-j
decreases-loop-j l = (length l.bytes - l.i) + (l.n - l.j)
