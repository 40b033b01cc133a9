-- `how_many_power_inner::power` meets its contract. The loop's invariant: p is the product of so many factors as turns.
use Rattle.words.proofs.Needs.{◌^◌, ◌≡◌}
use Rattle.how_many_power_inner.proofs.power.Given as goal

abbrev pub invariant-loop : goal.invariant-loop
invariant-loop l = l.p ≡ l.k ^ l.counter
