-- `picture_gray_inner::managed_gray` meets its contract.
use Rattle.words.proofs.Needs.{refl}
use Rattle.picture_spec.specs.Gray.{managed_grays, gray}
use Rattle.picture_gray_inner.proofs.managed_gray.Goals as goal

pub returns : goal.returns
unfolding gray managed_grays
returns c = refl
