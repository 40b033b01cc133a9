-- `desk_inner::shades_of` meets its contract.
use Rattle.desk_spec.specs.Verbs.{shades_of}
use Rattle.desk_inner.proofs.shades_of.Goals as goal

pub returns : goal.returns
unfolding shades_of
returns c = c.or_either.ensures
