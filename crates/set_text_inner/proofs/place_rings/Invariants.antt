-- `set_text_inner::place_rings` meets its contract. The lines of the rings in the first j places are placed, one behind another.
use Rattle.text_spec.specs.Put.{Placed}
use Rattle.set_spec.specs.Places.{set_in}
use Rattle.set_text_spec.specs.Text.{ring_texts}
use Rattle.set_text_inner.proofs.place_rings.Given as goal

abbrev pub invariant-loop-j : goal.invariant-loop-j
invariant-loop-j l = Placed l.initial.buf 0 (ring_texts (set_in l.n l.places l.j)) l.at l.buf
