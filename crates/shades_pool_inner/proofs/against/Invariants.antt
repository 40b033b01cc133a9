-- `shades_pool_inner::against` meets its contract. The loop: the first a letters of al and the word of node g are the first c and the word of node i.
use Rattle.words.proofs.Needs.{◌-◌}
use Rattle.shades_pool_inner.proofs.Chains.{Following}
use Rattle.shades_pool_inner.proofs.against.Given as goal

abbrev pub invariant-loop-i : goal.invariant-loop-i
invariant-loop-i l = Following l.al l.pre l.next l.first l.g l.a l.i l.c

abbrev pub decreases-loop-i : goal.decreases-loop-i
decreases-loop-i l = 80 - l.i
