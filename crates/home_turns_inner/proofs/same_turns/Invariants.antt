-- `home_turns_inner::same_turns` meets its contract. The loop's invariant: what is left of the two turns from place m on decides.
use Rattle.words.proofs.Needs.{◌≤◌, ◌≡◌, length, drop}
use Rattle.words.specs.{Turn.turn, Order.same}
use Rattle.home_turns_inner.proofs.same_turns.Given as goal

abbrev pub invariant-loop-m : goal.invariant-loop-m
invariant-loop-m l = (l.m ≤ length l.a) × (same (drop l.m (turn l.i l.a)) (drop l.m (turn l.j l.b)) ≡ same (turn l.i l.a) (turn l.j l.b))
