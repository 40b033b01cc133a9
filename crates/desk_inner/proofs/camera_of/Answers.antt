-- `desk_inner::camera_of` meets its contract.
use Rattle.desk_spec.specs.Verbs.{camera_of}
use Rattle.desk_inner.proofs.camera_of.Goals as goal

pub returns : goal.returns
unfolding camera_of
returns c = c.or_either.ensures
