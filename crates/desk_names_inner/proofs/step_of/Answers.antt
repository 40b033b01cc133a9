-- `desk_names_inner::step_of` meets its contract.
use Rattle.desk_spec.specs.Verbs.{step_of}
use Rattle.desk_names_inner.proofs.Names.{either-then}
use Rattle.desk_names_inner.proofs.step_of.Goals as goal

pub returns : goal.returns
unfolding step_of
returns c = either-then _ _ _ _ _ _ _ _ c.or_either.ensures c.or_either-c.ensures
