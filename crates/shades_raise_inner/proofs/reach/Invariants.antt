-- `shades_raise_inner::reach` meets its contract. The loop: the first i sectors fit into the counts, and the first p of them are a Lyndon word.
use Rattle.words.proofs.Needs.{◌-◌}
use Rattle.shades_raise_inner.proofs.Blocking.{Ahead}
use Rattle.shades_raise_inner.proofs.reach.Given as goal

abbrev pub invariant-loop-i : goal.invariant-loop-i
invariant-loop-i l = Ahead l.w l.n l.k l.counts l.p l.i l.rem

abbrev pub decreases-loop-i : goal.decreases-loop-i
decreases-loop-i l = l.n - l.i
