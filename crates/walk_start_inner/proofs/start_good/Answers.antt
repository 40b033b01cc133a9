-- `walk_start_inner::start_good` meets its contract.
use Rattle.walk_record_laws.proofs.Good.{start-off, start-on, start_is}
use Rattle.walk_start_inner.proofs.start_good.Goals as goal

pub returns-in-Loose : goal.returns-in-Loose
returns-in-Loose c = (start-off c.args.s.now c.args.k _ c.requires c.class_of-class.ensures _ c.in-Loose.is, c.empty.ensures)

pub lay_out-ring-requires : goal.lay_out-ring-requires
lay_out-ring-requires c = c.requires.0.0.0.0.0.0.1

pub counts_of-counts-requires : goal.counts_of-counts-requires
counts_of-counts-requires c = c.requires.0.0.0.0.0.0.1

pub returns : goal.returns
returns c = (
  start-on c.args.s.now c.args.k _ c.requires c.class_of-class.ensures c.in_default.not-Loose,
  start_is c.args.s.now c.args.k _ c.requires c.class_of-class.ensures _ _ c.lay_out-ring.ensures c.counts_of-counts.ensures,
)
