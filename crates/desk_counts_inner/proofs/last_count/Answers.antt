-- `desk_counts_inner::last_count` meets its contract.
use Rattle.words.proofs.Needs.{refl}
use Rattle.desk_counts_inner.proofs.last_count.Goals as goal

pub returns-in_err-x : goal.returns-in_err-x
returns-in_err-x c = rw c.from_residual.ensures c.in_err-x.ensures

pub returns : goal.returns
returns c = (refl, (_, c.in_ok-x.ensures.0, c.in_ok-x.ensures.1, refl))
