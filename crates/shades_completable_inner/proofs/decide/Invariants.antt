-- `shades_completable_inner::decide` meets its contract. The loop: the arrays hold the groups of a pool; the last group's place falls, or the least word grows.
use Rattle.words.proofs.Needs.{◌+◌, ◌-◌, length}
use Rattle.shades_completable_inner.proofs.Testing.{Testing}
use Rattle.shades_completable_inner.proofs.decide.Given as goal

abbrev pub invariant-loop-e : goal.invariant-loop-e
invariant-loop-e l = Testing l.al l.rem l.first l.q l.a l.f l.e l.num l.pre l.next

abbrev pub decreases-loop-e : goal.decreases-loop-e
decreases-loop-e l = l.e + (length l.al - l.a)
