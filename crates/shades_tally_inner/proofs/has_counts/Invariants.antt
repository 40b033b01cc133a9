-- `shades_tally_inner::has_counts` meets its contract. The loop: the first b shades stand in s as often as their counts say.
use Rattle.words.proofs.Needs.{ℕ, ◌<◌, ◌≡◌, get_or}
use Rattle.rings.specs.Counts.{occurs}
use Rattle.shades_tally_inner.proofs.has_counts.Given as goal

abbrev pub invariant-loop-b : goal.invariant-loop-b
invariant-loop-b l = (x : ℕ) → x < l.b → occurs x l.s ≡ get_or l.counts x 0
