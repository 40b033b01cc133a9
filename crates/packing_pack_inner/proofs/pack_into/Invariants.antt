-- `packing_pack_inner::pack_into` meets its contract. The loop's invariant: the written bytes and the held bits are the taken sectors as one number.
use Rattle.words.proofs.Plain.{◌-◌}
use Rattle.packing_pack_inner.proofs.Packs.{Packs}
use Rattle.packing_pack_inner.proofs.pack_into.Given as goal

abbrev pub invariant-loop-i : goal.invariant-loop-i
invariant-loop-i l = Packs l.width l.sectors l.i l.out l.j l.held l.rest

abbrev pub decreases-loop-i : goal.decreases-loop-i
decreases-loop-i l = l.n - l.i
