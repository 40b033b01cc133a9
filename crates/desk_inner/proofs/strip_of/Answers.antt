-- `desk_inner::strip_of` meets its contract.
use Rattle.desk_spec.specs.Verbs.{strip_of}
use Rattle.desk_inner.proofs.strip_of.Goals as goal

pub returns : goal.returns
unfolding strip_of
returns c = c.or_named.ensures
