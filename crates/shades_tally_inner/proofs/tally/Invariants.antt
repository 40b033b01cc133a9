-- `shades_tally_inner::tally` meets its contract. The loop: x of the sectors passed have the shade b.
use Rattle.words.proofs.Needs.{◌≤◌, ◌≡◌, take}
use Rattle.rings.specs.Counts.{occurs}
use Rattle.shades_tally_inner.proofs.tally.Given as goal

abbrev pub invariant-loop-here : goal.invariant-loop-here
invariant-loop-here l = (l.x ≡ occurs l.b (take l.here-index l.s)) × (l.x ≤ l.here-index)
