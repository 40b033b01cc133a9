-- `shades_tally_inner::fitting` meets its contract. The loop: the first i sectors fit, and rem is what the counts leave beside them.
use Rattle.words.proofs.Needs.{take}
use Rattle.shades_tally_inner.specs.Remaining.{Remains}
use Rattle.shades_tally_inner.proofs.fitting.Given as goal

abbrev pub invariant-loop-i : goal.invariant-loop-i
invariant-loop-i l = Remains l.counts (take l.i l.s) l.rem
