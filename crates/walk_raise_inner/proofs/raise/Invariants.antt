-- `walk_raise_inner::raise` meets its contract. The loop's invariant: the sectors passed repeat those up to the place, which is raised, and the next is copied from
-- place i % (at + 1).
use Rattle.words.proofs.Needs.{◌+◌, ◌%◌, ◌≡◌}
use Rattle.walk_raise_inner.proofs.Raising.{Copied}
use Rattle.walk_raise_inner.proofs.raise.Given as goal

abbrev pub invariant-loop-i : goal.invariant-loop-i
invariant-loop-i l = Copied l.initial.s l.s (l.at + 1) l.i × (l.from ≡ l.i % (l.at + 1))
