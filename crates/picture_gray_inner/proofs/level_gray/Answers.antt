-- `picture_gray_inner::level_gray` meets its contract.
use Rattle.words.proofs.Needs.{refl}
use Rattle.picture_spec.specs.Gray.{gray}
use Rattle.picture_gray_inner.proofs.level_gray.Goals as goal

pub returns : goal.returns
unfolding gray
returns c = refl
