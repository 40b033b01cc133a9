-- `shades_tally_inner::is_counted` meets its contract. A prenecklace is a necklace exactly where its lyn divides its length.
use Rattle.words.proofs.Plain.{◌∙◌, ne_eqb}
use Rattle.shades_tally_inner.proofs.Tallying.{counted-not, counted_is}
use Rattle.shades_tally_inner.proofs.is_counted.Goals as goal

pub returns-then-s-p-eq0 : goal.returns-then-s-p-eq0
returns-then-s-p-eq0 c =
    counted_is c.args.counts.now c.args.s.now c.args.p c.requires c.if-s-p-eq0.true _ c.has_counts.ensures

pub returns-else-s-p-eq0 : goal.returns-else-s-p-eq0
returns-else-s-p-eq0 c = ne_eqb _ _ c.if-s-p-eq0.false ∙ counted-not c.args.counts.now c.args.s.now c.args.p c.requires c.if-s-p-eq0.false
