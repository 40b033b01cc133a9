-- `shades_tally_inner::tally` meets its contract. The loop: x of the sectors passed have the shade b.
use Rattle.words.proofs.Needs.{◌<◌, arith, ◌∙◌, sym, length}
use Rattle.shades_tally_inner.proofs.Tallying.{tally-hit, tally-miss, tally-end, occurs-none}
use Rattle.shades_tally_inner.proofs.tally.Goals as goal
use Rattle.shades_tally_inner.proofs.tally.Goals.{then-from-b, else-from-b}

pub loop-here-init : goal.loop-here-init
loop-here-init c = (sym (occurs-none c.args.b), omega arith)

pub loop-here-preserved : goal.loop-here-preserved
loop-here-preserved c =
    let at : c.loop-here.here-index < length c.args.s.now = omega arith in
    elim c.if-from-b.branch [
      | then-from-b w ↦ (
        w.x-is ∙ tally-hit c.args.b c.args.s.now c.loop-here.here-index c.loop-here.x at c.loop-here.invariant.0 (sym c.from.ensures ∙ w.if-from-b.true),
        omega arith,
      )
      | else-from-b w ↦ (
        w.x-is ∙ tally-miss c.args.b c.args.s.now c.loop-here.here-index c.loop-here.x at c.loop-here.invariant.0 (λ e. w.if-from-b.false (c.from.ensures ∙ e)),
        omega arith,
      )
    ]

pub returns : goal.returns
returns c = tally-end _ _ _ _ (omega arith) c.loop-here.invariant.0
