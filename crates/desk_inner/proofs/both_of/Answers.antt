-- `desk_inner::both_of` meets its contract.
use Rattle.desk_spec.specs.Verbs.{both_of}
use Rattle.desk_inner.proofs.both_of.Goals as goal

pub returns : goal.returns
unfolding both_of
returns c = c.or_either.ensures
