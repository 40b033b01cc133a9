-- `picture_ring_inner::place_arcs` meets its contract. The invariant, `Drawing`: the first i sectors are drawn, and `before` is the last one's shade.
use Rattle.words.proofs.Needs.{◌≤◌, ◌≡◌, length}
use Rattle.picture_ring_inner.proofs.Drawing.{Drawing}
use Rattle.picture_ring_inner.proofs.place_arcs.Given as goal

abbrev pub invariant-loop-i : goal.invariant-loop-i
invariant-loop-i l = Drawing l.tone l.k l.ring l.o l.initial.buf l.at l.before l.i l.p l.buf × (length l.buf ≡ length l.initial.buf)
