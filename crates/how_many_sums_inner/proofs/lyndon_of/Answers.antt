-- `how_many_sums_inner::lyndon_of` meets its contract.
use Rattle.words.proofs.Needs.{◌∙◌}
use Rattle.how_many_sums_inner.proofs.Sums.{minus-fits, lyndon-are}
use Rattle.how_many_sums_inner.proofs.lyndon_of.Goals as goal

pub overflow_sub-plus : goal.overflow_sub-plus
overflow_sub-plus c =
    minus-fits c.args.k c.args.n c.requires c.over_divisors-plus.result c.over_divisors-minus.result c.over_divisors-plus.ensures c.over_divisors-minus.ensures

pub returns : goal.returns
returns c =
    c.part.ensures
    ∙ lyndon-are c.args.k c.args.n c.requires c.over_divisors-plus.result c.over_divisors-minus.result
    c.over_divisors-plus.ensures c.over_divisors-minus.ensures
