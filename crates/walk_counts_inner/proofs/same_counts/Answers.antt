-- `walk_counts_inner::same_counts` meets its contract: the comparison is the same at each place.
use Rattle.words.specs.Order.{same}
use Rattle.walk_counts_inner.proofs.same_counts.Goals as goal

pub returns : goal.returns
unfolding same
returns c = c.eq.ensures
