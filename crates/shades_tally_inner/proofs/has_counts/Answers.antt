-- `shades_tally_inner::has_counts` meets its contract. The loop: the first b shades stand in s as often as their counts say.
use Rattle.words.proofs.Needs.{arith, ◌∙◌, sym, below_more}
use Rattle.shades_tally_inner.proofs.Tallying.{counts_end, counts-not}
use Rattle.shades_tally_inner.proofs.has_counts.Goals as goal

pub returns-then-tally-count : goal.returns-then-tally-count
returns-then-tally-count c =
    counts-not c.args.counts.now c.args.s.now c.loop-b.b (omega arith) (λ e. c.if-tally-count.true (c.tally.ensures ∙ e))

pub loop-b-preserved : goal.loop-b-preserved
loop-b-preserved c = below_more _ _ c.loop-b.invariant (sym c.tally.ensures ∙ c.if-tally-count.false)

pub returns : goal.returns
returns c = counts_end c.args.counts.now c.args.s.now _ (omega arith) c.loop-b.invariant
