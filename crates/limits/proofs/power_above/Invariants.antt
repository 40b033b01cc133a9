-- `limits::power_above` meets its contract. The loop's invariant: p is k to the power of the turns made, and within the limit.
use Rattle.words.proofs.Needs.{◌≤◌, ◌^◌, ◌≡◌}
use Rattle.limits.proofs.power_above.Given as goal

abbrev pub invariant-loop : goal.invariant-loop
invariant-loop l = (l.p ≡ l.k ^ l.counter) × (l.p ≤ l.limit)
