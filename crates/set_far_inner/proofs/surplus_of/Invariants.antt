-- `set_far_inner::surplus_of` meets its contract. The loop's invariant: `more` is the surplus of the shades that are passed.
use Rattle.words.proofs.Needs.{◌≤◌, ◌*◌, ◌≡◌, length}
use Rattle.words.proofs.Sequence.{sec}
use Rattle.ring_home_laws.proofs.Counts.{surplus}
use Rattle.set_far_inner.proofs.surplus_of.Given as goal

abbrev pub invariant-loop-x : goal.invariant-loop-x
invariant-loop-x l = (l.more ≤ 255 * length l.yielded) × (l.more ≡ surplus (length l.yielded) (sec l.a) (sec l.b))
