-- `walk_class_inner::on_walk` meets its contract: the ring's own class tells.
use Rattle.words.proofs.Needs.{rules}
use Rattle.walk_record_laws.proofs.Good.{off-loose, off-other, on-class}
use Rattle.walk_class_inner.proofs.on_walk.Goals as goal

pub returns-in-Loose : goal.returns-in-Loose
returns-in-Loose c = off-loose _ c.args.class _ c.class_of-found.ensures _ c.in-Loose.is

pub returns-then-ne : goal.returns-then-ne
returns-then-ne c = off-other _ c.args.class _ c.class_of-found.ensures c.in_default.not-Loose (search rules)

pub returns : goal.returns
returns c = on-class _ c.args.class _ c.class_of-found.ensures c.in_default.not-Loose (search rules)
