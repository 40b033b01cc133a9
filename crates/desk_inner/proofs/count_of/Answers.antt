-- `desk_inner::count_of` meets its contract.
use Rattle.desk_spec.specs.Verbs.{count_of}
use Rattle.desk_inner.proofs.count_of.Goals as goal

pub returns : goal.returns
unfolding count_of
returns c = c.or_either.ensures
