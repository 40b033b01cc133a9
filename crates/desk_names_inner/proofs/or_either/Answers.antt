-- `desk_names_inner::or_either` meets its contract.
use Rattle.desk_names_inner.proofs.Names.{named-then}
use Rattle.desk_names_inner.proofs.or_either.Goals as goal

pub returns : goal.returns
returns c = named-then _ _ _ _ _ _ c.or_named-2.ensures c.or_named.ensures
