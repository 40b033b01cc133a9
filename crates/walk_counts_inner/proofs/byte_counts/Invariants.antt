-- `walk_counts_inner::byte_counts` meets its contract. The loop's invariant: the counts are those of the sectors passed.
use Rattle.words.proofs.Needs.{◌≤◌, length}
use Rattle.walk_counts_inner.proofs.Counting.{Counting}
use Rattle.walk_counts_inner.proofs.byte_counts.Given as goal

abbrev pub invariant-loop-sector : goal.invariant-loop-sector
invariant-loop-sector l = (length l.sector-items ≤ 64) × Counting 256 l.sector-items l.counts l.sector-index
