-- `walk_checks_inner::check_walk` meets its contract: the record's own check, 5, comes last: the class, and then the counts.
use Rattle.walk_record_laws.proofs.Good.{off-counts}
use Rattle.walk_checks_inner.proofs.check_walk.Goals as goal

pub returns-else-same_counts : goal.returns-else-same_counts
returns-else-same_counts c =
    off-counts c.args.w c.in_ok-check_ring.ensures c.in_ok-on_walk.ensures _ _ c.counts_of-own.ensures c.same_counts.ensures c.if-same_counts.false
