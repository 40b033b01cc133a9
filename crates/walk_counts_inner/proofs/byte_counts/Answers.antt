-- `walk_counts_inner::byte_counts` meets its contract. The loop's invariant: the counts are those of the sectors passed.
use Rattle.words.proofs.Needs.{rules, arith}
use Rattle.walk_counts_inner.proofs.Counting.{count-start, count-more, count-end, count-room}
use Rattle.walk_counts_inner.proofs.byte_counts.Goals as goal

pub loop-sector-init : goal.loop-sector-init
loop-sector-init c = (search rules, count-start 256 _)

pub overflow_add-counts : goal.overflow_add-counts
overflow_add-counts c = omega (arith, count-room 256 _ _ _ c.from.result c.loop-sector.invariant.1 (omega arith))

pub loop-sector-preserved : goal.loop-sector-preserved
loop-sector-preserved c = (c.loop-sector.invariant.0, count-more 256 _ _ _ c.from.result (omega arith) c.loop-sector.invariant.1 c.from.ensures (omega arith))

pub returns : goal.returns
returns c = count-end 256 _ _ _ c.loop-sector.invariant.1 (omega arith)
