-- `shades_fill_inner::fill` meets its contract. The loop: the letters of the first b counts are written, l in all.
use Rattle.shades_fill_inner.proofs.Filling.{Filling}
use Rattle.shades_fill_inner.proofs.fill.Given as goal

abbrev pub invariant-loop-b : goal.invariant-loop-b
invariant-loop-b l = Filling l.initial.w l.counts l.w l.l l.b
