-- `walk_counts_inner::counts_of` meets its contract: the first 16 of the bytes' counts are those of the shades.
use Rattle.words.proofs.Needs.{◌∙◌}
use Rattle.walk_counts_inner.proofs.Counting.{first-counts}
use Rattle.walk_counts_inner.proofs.counts_of.Goals as goal

pub returns : goal.returns
returns c = c.copy_from_slice.ensures.after ∙ first-counts _ _ c.byte_counts-all.ensures
