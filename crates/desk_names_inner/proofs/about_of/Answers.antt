-- `desk_names_inner::about_of` meets its contract.
use Rattle.desk_spec.specs.Verbs.{about_of}
use Rattle.desk_names_inner.proofs.Names.{either-then}
use Rattle.desk_names_inner.proofs.about_of.Goals as goal

pub returns : goal.returns
unfolding about_of
returns c = either-then _ _ _ _ _ _ _ _ c.or_either.ensures c.or_either-c.ensures
