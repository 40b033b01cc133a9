-- `set_layout_inner::write_rings` meets its contract. The loop's invariant: the first j rings stand at the beginning of the output.
use Rattle.set_layout_inner.proofs.Laying.{Laid}
use Rattle.set_layout_inner.proofs.write_rings.Given as goal

abbrev pub invariant-loop-j : goal.invariant-loop-j
invariant-loop-j l = Laid l.n l.places l.taken l.out l.j
