-- `how_many_sums_inner::necklaces_of` meets its contract.
use Rattle.words.proofs.Needs.{◌∙◌}
use Rattle.how_many_sums_inner.proofs.Sums.{necklaces-are}
use Rattle.how_many_sums_inner.proofs.necklaces_of.Goals as goal

pub returns : goal.returns
returns c =
    c.part.ensures ∙ necklaces-are c.args.k c.args.n c.requires c.over_divisors-x.result c.over_divisors-x.ensures
